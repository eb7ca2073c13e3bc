-- One span's id: the numbers of an answer, and steps of the rules as the code takes them.
use Rattle.std.specs.Prelude.{ℕ, suc, ◌+◌, Bool, false, List, get_or, ltb, eqb, Result, Ok, Err, Option, Some, None}
use Rattle.rules.specs.Base.{◌and◌, when◌then◌else◌}
use Rattle.rules.specs.File.{word}
use Rattle.rules.specs.Stored.{IdOutcome}
use Rattle.stored.specs.Answer.{stored_number}
use Rattle.stored.specs.declared.StoredRefusal.{StoredRefusal}
use Rattle.stored.specs.declared.id.IdAnswer.{IdAnswer}

-- the span's id, none where the spans end before it, or a refusal; with the stretch that was read
abbrev pub found_outcome : Result (Option ℕ) StoredRefusal → ℕ → IdOutcome
found_outcome (Err r) p = record { refused = stored_number r; id = 0; stretch = p }
found_outcome (Ok None) p = record { refused = 26; id = 0; stretch = p }
found_outcome (Ok (Some id)) p = record { refused = 0; id = id; stretch = p }

abbrev pub id_outcome : IdAnswer → IdOutcome
id_outcome a = found_outcome a.id a.stretch

-- the record at place i is the run that holds the span
unfoldable pub holds : List ℕ → ℕ → ℕ → ℕ → ℕ → Bool
holds file i t s span = when eqb t 64 then false else ltb span (s + word file (i + 3))

-- the stretches after it
unfoldable pub stretch_after : ℕ → ℕ → ℕ
stretch_after t p = when eqb t 64 then suc p else p

-- a run
unfoldable pub is_run : List ℕ → ℕ → Bool
is_run file i = eqb (get_or file i 0) 6 and ltb 0 (word file (i + 3))

-- where the records end
unfoldable pub ends_at : List ℕ → ℕ → ℕ → IdOutcome
ends_at file i p = record { refused = when eqb (get_or file i 0) 4 then 26 else 22; id = 0; stretch = p }
