-- What the rule's records name: each its own number, in its lists only ids of spans, which are flagged or below m, and as floors only ids below m.
-- It holds of new records, and a span adds only ids of spans.
use Prim.Native.Nat.{ℕ, zero, suc, ◌+◌, ◌-◌, ◌<◌}
use native.Mathlib.Omega.{arith}
use native.Mathlib.Decide.{ℕ_discrete, dec_lt}
use mathlib.Core.Path.{◌≡◌}
use mathlib.Core.Bool.{true, not}
use mathlib.Core.List.{List, [], ◌∷◌, map}
use lib.ListN.{length, get_or}
use lib.Dec.{eqb}
use Rattle.rules.specs.Base.{keep, tab, upto}
use Rattle.rules.specs.Field.{Field, cell_of}
use Rattle.rules.specs.Net.{Net, net_of}
use Rattle.rules.specs.Growth.{plain}
use Rattle.rules.specs.Contour.{across, solid, first_solid, Walker, stride, walk, trim, walk_from, contour}
use Rattle.rules.specs.Records.{Rec, fresh, at, has, once, once_all, others, counted, add_span}
use Rattle.laws.proofs.Basics.{All, append_all, if-ind, upto-ind, store_cases, tab-at, length-tab, all_at, take_all}
use Rattle.laws.proofs.Plain.{plain_yes}

all_once : (P : ℕ → Type 0) (l : List ℕ) (r : ℕ) → All P l → P r → All P (once l r)
unfolding once
all_once P l r a p = if-ind (λ (x : List ℕ). All P x) (has l r) (λ _. a) (λ _. append_all P l (r ∷ []) a (p, tt))

all_once_all : (P : ℕ → Type 0) (l o : List ℕ) → All P l → All P o → All P (once_all l o)
unfolding once_all
all_once_all P l [] a b = a
all_once_all P l (r ∷ o) a b = all_once_all P (once l r) o (all_once P l r a b.0) b.1

module _ (ids : List ℕ) (m : ℕ) (some : 0 < m) (below : (x : ℕ) → plain (get_or ids x 0) ≡ true → get_or ids x 0 < m) where
  -- a span's id is flagged or below m
  pub id_under : (t : ℕ) → get_or ids t 0 < 32768 → get_or ids t 0 < m
  id_under t h = elim (ℕ_discrete (get_or ids t 0) 0) [ yes z ↦ omega arith | no z ↦ below t (plain_yes (get_or ids t 0) z h) ]

  plain_below : (l : List ℕ) → All (λ v. v < m) (keep plain (map (λ t. get_or ids t 0) l))
  unfolding keep
  plain_below [] = tt
  plain_below (t ∷ l) =
      let r = plain_below l in
      if-ind (λ (x : List ℕ). All (λ v. v < m) x) (plain (get_or ids t 0)) (λ e. (below t e, r)) (λ _. r)

  module _ (N : Net) where
    stride_under : (v : Walker) → All (λ x. x < 32768 → x < m) v.listed → All (λ x. x < 32768 → x < m) (stride N ids v).listed
    unfolding stride across
    stride_under v a =
        if-ind (λ (x : Walker). All (λ x. x < 32768 → x < m) x.listed) (solid N ids v.span v.dir)
        (λ _. if-ind (λ (l : List ℕ). All (λ x. x < 32768 → x < m) l) _ (λ _. a) (λ _. append_all (λ x. x < 32768 → x < m) v.listed _ a (id_under _, tt)))
        (λ _. a)

    walk_under : (s d f : ℕ) (v : Walker) → All (λ x. x < 32768 → x < m) v.listed → All (λ x. x < 32768 → x < m) (walk N ids s d f v).listed
    unfolding walk
    walk_under s d zero v a = a
    walk_under s d (suc f) v a =
        let b = stride_under v a in
        if-ind (λ (x : Walker). All (λ x. x < 32768 → x < m) x.listed) _ (λ _. b) (λ _. walk_under s d f (stride N ids v) b)

    contour_under : (s d : ℕ) → All (λ x. x < 32768 → x < m) (contour N ids s d)
    unfolding contour walk_from trim across
    contour_under s d =
        let l = (walk N ids s d 40000 (record { span = s; dir = d; last = across N ids s d; listed = across N ids s d ∷ [] })).listed in
        let a : All (λ x. x < 32768 → x < m) l = walk_under s d 40000 _ (id_under _, tt) in
        if-ind (λ (x : List ℕ). All (λ x. x < 32768 → x < m) x) _ (λ _. take_all (λ x. x < 32768 → x < m) (length l - 1) l a) (λ _. a)

  module _ (F : Field) where
    record Named (i : ℕ) (x : Rec) : Type 0 where
      id : i < m → x.id ≡ i
      list : All (λ x. x < 32768 → x < m) x.list
      floors : All (λ x. x < m) x.floors

    others_below : (s : ℕ) → All (λ v. v < m) (others F ids s)
    unfolding others
    others_below s = plain_below (keep (λ t. not (eqb t s)) (tab (get_or F.count (cell_of F.count s) 0) (get_or F.index (cell_of F.count s) 0) (λ t. t)))

    counted-named : (s i : ℕ) (x : Rec) → Named i x → Named i (counted F ids s x)
    unfolding counted
    counted-named s i x n = record {
      id = n.id;
      list = if-ind (λ (l : List ℕ). All (λ x. x < 32768 → x < m) l) _ (λ _. contour_under (net_of F) s (first_solid (net_of F) ids s)) (λ _. n.list);
      floors = all_once_all (λ x. x < m) x.floors (others F ids s) n.floors (others_below s);
    }

    add_named : (s : ℕ) (rs : List Rec) → ((i : ℕ) → Named i (at rs i)) → (i : ℕ) → Named i (at (add_span F ids s rs) i)
    unfolding add_span at
    add_named s rs n i =
        let r = get_or ids s 0 in
        if-ind (λ (y : List Rec). Named i (get_or y i (fresh 0))) (plain r)
        (λ _. store_cases rs r (counted F ids s (get_or rs r (fresh 0))) (fresh 0) i (λ (x : Rec). Named i x) (λ z. rw z (counted-named s r (get_or rs r (fresh 0)) (n r))) (n i))
        (λ _. n i)

    new_named : (i : ℕ) → Named i (at (tab m 0 fresh) i)
    unfolding at fresh
    new_named i =
        elim (dec_lt i m) [
          | yes h ↦ (let e : get_or (tab m 0 fresh) i (fresh 0) ≡ fresh (0 + i) = tab-at m 0 fresh i (fresh 0) h in
              rw e (record { id = λ _. omega arith; list = tt; floors = tt }))
          | no h ↦ (let e : get_or (tab m 0 fresh) i (fresh 0) ≡ fresh 0 = lib.ListN.get_or-eq_default (tab m 0 fresh) (fresh 0) (rw (length-tab m 0 fresh) (omega arith)) in
              rw e (record { id = λ g. absurd (h g); list = tt; floors = tt }))
        ]

    all_named : (k i : ℕ) → Named i (at (upto k (add_span F ids) (tab m 0 fresh)) i)
    all_named k i = upto-ind (λ _ rs. (i : ℕ) → Named i (at rs i)) (add_span F ids) (tab m 0 fresh) k new_named (λ j rs _ n. add_named j rs n) i

    pub own_name : (k i : ℕ) → i < m → (at (upto k (add_span F ids) (tab m 0 fresh)) i).id ≡ i
    own_name k i h = (all_named k i).id h

    pub lists_under : (k i x : ℕ) → x < length (at (upto k (add_span F ids) (tab m 0 fresh)) i).list
        → get_or (at (upto k (add_span F ids) (tab m 0 fresh)) i).list x 0 < 32768 → get_or (at (upto k (add_span F ids) (tab m 0 fresh)) i).list x 0 < m
    lists_under k i x h = all_at (λ x. x < 32768 → x < m) (at (upto k (add_span F ids) (tab m 0 fresh)) i).list x (all_named k i).list h

    pub floors_below : (k i x : ℕ) → x < length (at (upto k (add_span F ids) (tab m 0 fresh)) i).floors → get_or (at (upto k (add_span F ids) (tab m 0 fresh)) i).floors x 0 < m
    floors_below k i x h = all_at (λ x. x < m) (at (upto k (add_span F ids) (tab m 0 fresh)) i).floors x (all_named k i).floors h
