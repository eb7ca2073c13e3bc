-- The record at place i of a file, t runs of a stretch being before it: after 64 the number of spans is due, otherwise a run.
use Rattle.std.specs.Prelude.{ℕ, suc, ◌+◌, ◌*◌, Bool, true, List, [], get_or, leb, ltb, eqb}
use Rattle.rules.specs.Base.{◌and◌, when◌then◌else◌}
use Rattle.rules.specs.File.{word}
use Rattle.stored.specs.Parts.{may_follow, run_spans}

-- it is the record that is due
unfoldable pub record_fine : List ℕ → ℕ → ℕ → ℕ → Bool
record_fine file i t s =
    when eqb t 64 then eqb (get_or file i 0) 7 and leb s 4294967295 else eqb (get_or file i 0) 6 and ltb 0 (word file (i + 3))

-- the runs of the stretch after it
unfoldable pub runs_after : ℕ → ℕ
runs_after t = when eqb t 64 then 0 else suc t

-- the spans after it
unfoldable pub spans_after : List ℕ → ℕ → ℕ → ℕ → ℕ
spans_after file i t s = when eqb t 64 then s else s + word file (i + 3)

-- a number of four bytes
unfoldable pub long_word : List ℕ → ℕ → ℕ
long_word file i = word file i + 65536 * word file (i + 2)

unfoldable pub number_right : List ℕ → ℕ → ℕ → ℕ → Bool
number_right file i t s = when eqb t 64 then eqb (long_word file (i + 1)) s else true

-- it may follow a run of id x and length k
unfoldable pub record_follows : List ℕ → ℕ → ℕ → ℕ → ℕ → Bool
record_follows file i t x k = when eqb t 64 then true else may_follow x k (word file (i + 1))

-- a number of a run, or that of the run before
unfoldable pub number_after : List ℕ → ℕ → ℕ → ℕ → ℕ
number_after file i t before = when eqb t 64 then before else word file i

-- the bytes and the records of its spans
unfoldable pub spans_bytes : List ℕ → ℕ → ℕ → ℕ
spans_bytes file i t = when eqb t 64 then 0 else 3 * word file (i + 3)

unfoldable pub record_spans : List ℕ → ℕ → ℕ → List ℕ
record_spans file i t = when eqb t 64 then [] else run_spans file i
