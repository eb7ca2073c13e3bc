-- Steps of the rules, as the code takes them.
use Rattle.std.specs.Prelude.{ℕ, suc, ◌+◌, Bool, true, not, List, [], ◌∷◌, ◌++◌, replicate, leb, eqb}
use Rattle.rules.specs.Base.{◌or◌, when◌then◌else◌}
use Rattle.rules.specs.File.{word}
use Rattle.rules.specs.Stored.{two, span_record, run_record, mark_record, most_long, joins}

-- after a run of id x and length k, the length so far of the run that a span of id y is in
unfoldable pub grown : ℕ → ℕ → ℕ → ℕ
grown x k y = when joins x k y then suc k else 1

-- a record of five bytes: its kind and two numbers
unfoldable pub five : ℕ → ℕ → ℕ → List ℕ
five kind x y = kind ∷ (two x ++ two y)

-- the runs of the stretch after one more, t before it
unfoldable pub next_run : ℕ → ℕ
next_run t = when eqb (suc t) 64 then 0 else suc t

-- those before the run that a span of id y is in
unfoldable pub turned : ℕ → ℕ → ℕ → ℕ → ℕ
turned x k y t = when joins x k y then t else next_run t

-- the record of a run that ends after s spans, and where it is the last of its stretch, of the number of spans
unfoldable pub run_then : ℕ → ℕ → ℕ → ℕ → List ℕ
run_then x k t s = run_record x k ++ (when eqb (suc t) 64 then mark_record s else [])

-- its bytes
unfoldable pub run_bytes : ℕ → ℕ
run_bytes t = when eqb (suc t) 64 then 10 else 5

-- the same of the run that a span of id y ends, if it does
unfoldable pub ended : ℕ → ℕ → ℕ → ℕ → ℕ → List ℕ
ended x k y t s = when joins x k y then [] else run_then x k t s

unfoldable pub ended_bytes : ℕ → ℕ → ℕ → ℕ → ℕ
ended_bytes x k y t = when joins x k y then 0 else run_bytes t

-- the number of spans fits its record, if there is one
unfoldable pub mark_fits : ℕ → ℕ → Bool
mark_fits t s = when eqb (suc t) 64 then leb s 4294967295 else true

unfoldable pub end_fits : ℕ → ℕ → ℕ → ℕ → ℕ → Bool
end_fits x k y t s = when joins x k y then true else mark_fits t s

-- a run of id y may follow one of id x and length k
unfoldable pub may_follow : ℕ → ℕ → ℕ → Bool
may_follow x k y = not (eqb x y) or eqb k most_long

-- the records of spans
unfoldable pub span_records : List ℕ → List ℕ
span_records [] = []
span_records (id ∷ ids) = span_record id ++ span_records ids

-- those of the run at place i of a file
unfoldable pub run_spans : List ℕ → ℕ → List ℕ
run_spans file i = span_records (replicate (word file (i + 3)) (word file (i + 1)))
