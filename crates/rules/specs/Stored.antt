-- Stored results: a result is the ids of its spans in span order. Two forms of a file, and the conversion of ANY file of one form into the other.
use Rattle.std.specs.Prelude.{ℕ, zero, suc, ◌+◌, ◌*◌, ◌/◌, ◌%◌, Bool, true, false, not, List, [], ◌∷◌, ◌++◌, length, get_or, drop, replicate, leb, ltb, eqb}
use Rattle.rules.specs.Base.{◌and◌, ◌or◌, when◌then◌else◌}

-- "2 bytes each", "numbers little-endian"
unfoldable pub two : ℕ → List ℕ
two v = (v % 256) ∷ (v / 256) ∷ []

-- ---------------------------------------------------------------- the old form

-- "one record a span (kind 5: id, 2 bytes)"
unfoldable pub span_record : ℕ → List ℕ
span_record id = 5 ∷ two id

-- "with the end record"
unfoldable pub old_bytes : List ℕ → List ℕ
old_bytes [] = 4 ∷ []
old_bytes (id ∷ ids) = span_record id ++ old_bytes ids

-- a file of this form: not "unknown kind, cut short, no end, bytes after the end, the other form"
unfoldable pub old_fine : List ℕ → Bool
old_fine [] = false
old_fine (kind ∷ []) = eqb kind 4
old_fine (kind ∷ a ∷ []) = false
old_fine (kind ∷ a ∷ b ∷ rest) = eqb kind 5 and old_fine rest

-- the ids in it
unfoldable pub old_ids : List ℕ → List ℕ
old_ids [] = []
old_ids (kind ∷ []) = []
old_ids (kind ∷ a ∷ []) = []
old_ids (kind ∷ a ∷ b ∷ rest) = (a + 256 * b) ∷ old_ids rest

-- ---------------------------------------------------------------- runs

-- so many spans of one id, one after the other
pub record Run : Type 0 where
  pub id : ℕ
  pub long : ℕ

-- "length from 1 to 65,535"
abbrev pub most_long : ℕ
most_long = 65535

-- a span of id y lengthens a run of id x and length k before it
unfoldable pub joins : ℕ → ℕ → ℕ → Bool
joins x k y = eqb x y and ltb k most_long

-- "runs in span order .., every run as long as equal ids and that limit allow": the run so far, of id x and length k, and the ids after it
unfoldable pub runs_from : ℕ → ℕ → List ℕ → List Run
runs_from x k [] = record { id = x; long = k } ∷ []
runs_from x k (y ∷ ys) = when joins x k y then runs_from x (suc k) ys else record { id = x; long = k } ∷ runs_from y 1 ys

unfoldable pub runs_of : List ℕ → List Run
runs_of [] = []
runs_of (x ∷ xs) = runs_from x 1 xs

-- the ids that runs stand for
unfoldable pub spread : List Run → List ℕ
spread [] = []
spread (r ∷ rs) = replicate r.long r.id ++ spread rs

-- after a run of id x and length k: no run goes on with the id of the one before it, unless that one is as long as a run may be
unfoldable pub longest_after : ℕ → ℕ → List Run → Bool
longest_after x k [] = true
longest_after x k (r ∷ rs) = (not (eqb x r.id) or eqb k most_long) and longest_after r.id r.long rs

unfoldable pub longest : List Run → Bool
longest [] = true
longest (r ∷ rs) = longest_after r.id r.long rs

-- ---------------------------------------------------------------- the new form

-- "kind 6, id and length, 2 bytes each"
unfoldable pub run_record : ℕ → ℕ → List ℕ
run_record id long = 6 ∷ (two id ++ two long)

-- "4 bytes"
unfoldable pub four : ℕ → List ℕ
four v = (v % 256) ∷ (v / 256 % 256) ∷ (v / 65536 % 256) ∷ (v / 16777216 % 256) ∷ []

-- and the number of four bytes
unfoldable pub four_of : ℕ → ℕ → ℕ → ℕ → ℕ
four_of a b c d = a + 256 * b + 65536 * c + 16777216 * d

-- "a kind 7 record with the number of spans so far (4 bytes)"
unfoldable pub mark_record : ℕ → List ℕ
mark_record spans = 7 ∷ four spans

-- "After every 64 runs": a stretch
abbrev pub stretch_runs : ℕ
stretch_runs = 64

-- the greatest number of four bytes
abbrev pub most_spans_marked : ℕ
most_spans_marked = 4294967295

-- "After every 64 runs the new form carries a kind 7 record with the number of spans so far", also where the file then ends: the runs after t runs of a
-- stretch and s spans
unfoldable pub new_from : ℕ → ℕ → List Run → List ℕ
new_from t s [] = 4 ∷ []
new_from t s (r ∷ rs) =
    run_record r.id r.long
    ++ (when eqb (suc t) stretch_runs then mark_record (s + r.long) ++ new_from 0 (s + r.long) rs else new_from (suc t) (s + r.long) rs)

unfoldable pub new_bytes : List Run → List ℕ
new_bytes rs = new_from 0 0 rs

-- the number of spans fits 4 bytes wherever such a record stands
unfoldable pub marks_fit : ℕ → ℕ → List Run → Bool
marks_fit t s [] = true
marks_fit t s (r ∷ rs) =
    when eqb (suc t) stretch_runs then leb (s + r.long) most_spans_marked and marks_fit 0 (s + r.long) rs else marks_fit (suc t) (s + r.long) rs

-- a file of this form, whatever its runs and its numbers of spans, after t runs of a stretch and s spans; "a length of 0", "a missing or misplaced one, or a
-- span count that doesn't fit 4 bytes, is malformed"
unfoldable pub new_fine_from : ℕ → ℕ → List ℕ → Bool
new_fine_from t s [] = false
new_fine_from t s (kind ∷ []) = eqb kind 4 and ltb t stretch_runs
new_fine_from t s (kind ∷ a ∷ []) = false
new_fine_from t s (kind ∷ a ∷ b ∷ []) = false
new_fine_from t s (kind ∷ a ∷ b ∷ c ∷ []) = false
new_fine_from t s (kind ∷ a ∷ b ∷ c ∷ d ∷ rest) =
    when eqb t stretch_runs
    then (eqb kind 7 and leb s most_spans_marked) and new_fine_from 0 s rest
    else (eqb kind 6 and ltb 0 (c + 256 * d)) and new_fine_from (suc t) (s + (c + 256 * d)) rest

unfoldable pub new_fine : List ℕ → Bool
new_fine file = new_fine_from 0 0 file

-- the runs in it
unfoldable pub new_runs_from : ℕ → List ℕ → List Run
new_runs_from t [] = []
new_runs_from t (kind ∷ []) = []
new_runs_from t (kind ∷ a ∷ []) = []
new_runs_from t (kind ∷ a ∷ b ∷ []) = []
new_runs_from t (kind ∷ a ∷ b ∷ c ∷ []) = []
new_runs_from t (kind ∷ a ∷ b ∷ c ∷ d ∷ rest) =
    when eqb t stretch_runs then new_runs_from 0 rest else record { id = a + 256 * b; long = c + 256 * d } ∷ new_runs_from (suc t) rest

unfoldable pub new_runs : List ℕ → List Run
new_runs file = new_runs_from 0 file

-- "a full read refuses a wrong number in one"
unfoldable pub right_from : ℕ → ℕ → List ℕ → Bool
right_from t s [] = true
right_from t s (kind ∷ []) = true
right_from t s (kind ∷ a ∷ []) = true
right_from t s (kind ∷ a ∷ b ∷ []) = true
right_from t s (kind ∷ a ∷ b ∷ c ∷ []) = true
right_from t s (kind ∷ a ∷ b ∷ c ∷ d ∷ rest) =
    when eqb t stretch_runs then eqb (four_of a b c d) s and right_from 0 s rest else right_from (suc t) (s + (c + 256 * d)) rest

unfoldable pub right_numbers : List ℕ → Bool
right_numbers file = right_from 0 0 file

-- ---------------------------------------------------------------- "Convert old to new and back"

unfoldable pub packed : List ℕ → List ℕ
packed file = new_bytes (runs_of (old_ids file))

unfoldable pub unpacked : List ℕ → List ℕ
unpacked file = old_bytes (spread (new_runs file))

-- "22 malformed, 23 not the longest runs, .. in that order", "25 wrong number, between 23 and 24": those of the file alone, asked over the whole file. An old
-- file whose new form would need a number that does not fit 4 bytes is malformed too
unfoldable pub pack_refusal : List ℕ → ℕ
pack_refusal file = when old_fine file and marks_fit 0 0 (runs_of (old_ids file)) then 0 else 22

unfoldable pub read_refusal : List ℕ → ℕ
read_refusal file =
    when not (new_fine file) then 22 else
    when not (longest (new_runs file)) then 23 else
    when not (right_numbers file) then 25 else 0

pub record StoredOutcome : Type 0 where
  pub refused : ℕ
  pub long : ℕ
  pub out : List ℕ

-- "24 no room (exactly when the output would exceed the list lent; nothing is written then)"; places past the output keep what they held
unfoldable pub given_out : ℕ → List ℕ → List ℕ → StoredOutcome
given_out refusal output out₀ =
    when not (eqb refusal 0) then record { refused = refusal; long = 0; out = out₀ } else
    when ltb (length out₀) (length output) then record { refused = 24; long = 0; out = out₀ } else
    record { refused = 0; long = length output; out = output ++ drop (length output) out₀ }

unfoldable pub pack_outcome : List ℕ → List ℕ → StoredOutcome
pack_outcome file out₀ = given_out (pack_refusal file) (packed file) out₀

unfoldable pub unpack_outcome : List ℕ → List ℕ → StoredOutcome
unpack_outcome file out₀ = given_out (read_refusal file) (unpacked file) out₀

-- ---------------------------------------------------------------- one span's id: the full reader

-- the number of the refusal, 0 for none; the id of the span; the stretch that was read, counted from 0
pub record IdOutcome : Type 0 where
  pub refused : ℕ
  pub id : ℕ
  pub stretch : ℕ

-- the run that holds the span, and its stretch, among runs after p stretches, t runs of the next and s spans; "26 span beyond the end"
unfoldable pub seek : ℕ → ℕ → ℕ → List Run → ℕ → IdOutcome
seek p t s [] span = record { refused = 26; id = 0; stretch = p }
seek p t s (r ∷ rs) span =
    let next = when eqb (suc t) stretch_runs then seek (suc p) 0 (s + r.long) rs span else seek p (suc t) (s + r.long) rs span in
    when ltb span (s + r.long) then record { refused = 0; id = r.id; stretch = p } else next

-- "22, 23, 25, then 26"
unfoldable pub id_whole : List ℕ → ℕ → IdOutcome
id_whole file span =
    let r = read_refusal file in
    when not (eqb r 0) then record { refused = r; id = 0; stretch = 0 } else seek 0 0 0 (new_runs file) span

-- ---------------------------------------------------------------- one span's id by way of the kind 7 records

-- records are five bytes long, and a stretch with its kind 7 record is 65 of them: the number in that of stretch k
unfoldable pub mark_at : List ℕ → ℕ → ℕ
mark_at file k =
    four_of (get_or file (325 * k + 321) 0) (get_or file (325 * k + 322) 0) (get_or file (325 * k + 323) 0) (get_or file (325 * k + 324) 0)

-- "by way of these", by halving: of the stretches lo to hi the first whose number is above the span, or hi. The first number is fuel
unfoldable pub halving : ℕ → List ℕ → ℕ → ℕ → ℕ → ℕ
halving zero file span lo hi = lo
halving (suc k) file span lo hi =
    let mid = (lo + hi) / 2 in
    let next = when leb (mark_at file mid) span then halving k file span (suc mid) hi else halving k file span lo mid in
    when ltb lo hi then next else lo

-- the kind 7 records that a file of this length has: no more than their greatest number, since each is above the one before
unfoldable pub marks_in : List ℕ → ℕ
marks_in file = when ltb most_spans_marked (length file / 325) then most_spans_marked else length file / 325

-- the stretch that is read
unfoldable pub chosen : List ℕ → ℕ → ℕ
chosen file span = halving (marks_in file) file span 0 (marks_in file)

-- the spans before it
unfoldable pub spans_before : List ℕ → ℕ → ℕ
spans_before file zero = 0
spans_before file (suc k) = mark_at file k

-- "reading one stretch only": stretch p, c of its runs being left, after s spans. 25 where all are read and the span is not among them
unfoldable pub within : ℕ → ℕ → List ℕ → ℕ → ℕ → IdOutcome
within p zero bytes s span = record { refused = 25; id = 0; stretch = p }
within p (suc c) [] s span = record { refused = 22; id = 0; stretch = p }
within p (suc c) (kind ∷ []) s span = record { refused = when eqb kind 4 then 26 else 22; id = 0; stretch = p }
within p (suc c) (kind ∷ x ∷ []) s span = record { refused = 22; id = 0; stretch = p }
within p (suc c) (kind ∷ x ∷ y ∷ []) s span = record { refused = 22; id = 0; stretch = p }
within p (suc c) (kind ∷ x ∷ y ∷ z ∷ []) s span = record { refused = 22; id = 0; stretch = p }
within p (suc c) (kind ∷ x ∷ y ∷ z ∷ w ∷ rest) s span =
    let next = within p c rest (s + (z + 256 * w)) span in
    let here = when ltb span (s + (z + 256 * w)) then record { refused = 0; id = x + 256 * y; stretch = p } else next in
    when eqb kind 6 and ltb 0 (z + 256 * w) then here else record { refused = 22; id = 0; stretch = p }

-- a file whose length no file of the form has is refused 22 before a stretch is chosen
unfoldable pub id_at : List ℕ → ℕ → IdOutcome
id_at file span =
    let p = chosen file span in
    when eqb (length file % 5) 1
    then within p stretch_runs (drop (325 * p) file) (spans_before file p) span
    else record { refused = 22; id = 0; stretch = 0 }
