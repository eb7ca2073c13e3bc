-- The failed flood: if the flood from a seed counts nothing, then after it every span has the id that it had before, so none bears the
-- flood's id, and the floods after it are given that same id. It holds because only counted spans keep the id (`flood-leaves`). Assumes nothing.
use Prim.Native.Nat.{ℕ, ◌<◌}
use native.Mathlib.Omega.{arith}
use mathlib.Core.Path.{◌≡◌, sym, ◌∙◌}
use mathlib.Core.List.{List, ◌∷◌}
use lib.ListN.{length}
use lib.Seq.{ext_get_or}
use borrow.Author.Tests.{eq-eqb, ne_eqb}
use Rattle.rules.specs.Base.{◌and◌, when◌then◌else◌}
use Rattle.rules.specs.Field.{none}
use Rattle.rules.specs.Net.{Net, spans, area_of}
use Rattle.rules.specs.Growth.{Marks, id_of, flood, floods}
use Rattle.rooms.proofs.Flooding.{Leaves, flood-leaves}

-- a flood from seed s with an id that no span has
pub record Begins (N : Net) (id : ℕ) (m : Marks) (s : ℕ) : Type 0 where
  pub some : 0 < id
  pub plain : id < 0x8000
  pub inside : s < spans N
  pub byte : area_of N s < 256
  pub size : length m.ids ≡ spans N
  pub blank : id_of m s ≡ 0
  pub unused : (t : ℕ) → id_of m t ≡ id → ⊥

module _ (N : Net) (dist : List ℕ) (level id : ℕ) (m : Marks) (s : ℕ) (b : Begins N id m s) (failed : (flood N dist level id m s).count ≡ 0) where
  leaves : Leaves N m.ids id s (flood N dist level id m s)
  leaves = flood-leaves N dist level id m s b.some b.plain b.inside (λ e. omega arith) b.size b.blank b.unused

  -- every span has the id that it had before
  pub failed_flood_keeps_ids : (flood N dist level id m s).marks.ids ≡ m.ids
  failed_flood_keeps_ids = ext_get_or 0 _ _ (leaves.size ∙ sym b.size) (λ t h. leaves.lost failed t)

  -- so no span bears the flood's id
  pub failed_flood-gives_id_back : (t : ℕ) → id_of (flood N dist level id m s).marks t ≡ id → ⊥
  failed_flood-gives_id_back t e = b.unused t (sym (leaves.lost failed t) ∙ e)

  -- and the floods from the entries after it begin with that id
  pub next_flood_gets_the_id : (es : List ℕ) → (s ≡ none → ⊥) → floods N dist level (s ∷ es) m id ≡ floods N dist level es (flood N dist level id m s).marks id
  unfolding floods ◌and◌ when◌then◌else◌
  next_flood_gets_the_id es h = rw (ne_eqb s 65535 h, eq-eqb (id_of m s) 0 b.blank, eq-eqb (flood N dist level id m s).count 0 failed)
