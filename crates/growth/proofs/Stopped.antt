-- A stop has a number other than 0, so a result is one exactly where its number is not 0; and no two stops have the same number.
use native.Mathlib.Omega.{arith}
use mathlib.Core.Path.{◌≡◌, refl}
use mathlib.Core.Bool.{true, false, true≢false, false≢true}
use Rattle.std.specs.Prelude.{Result, Ok, Err}
use Rattle.std.specs.Result.{is_err}
use Rattle.growth.specs.declared.turns.Stop.{Stop}
use Rattle.growth.specs.declared.turns.Stop.TheVariants.{NoIds, NoSum}
use Rattle.growth.specs.Stops.{stop_number, stop_of}

pub some_stop : (s : Stop) → stop_number s ≡ 0 → ⊥
some_stop NoIds z = absurd (omega arith)
some_stop NoSum z = absurd (omega arith)

pub err_stops : {A : Type 0} → (r : Result A Stop) → is_err r ≡ true → stop_of r ≡ 0 → ⊥
err_stops (Ok x) e z = absurd (false≢true e)
err_stops (Err s) e z = some_stop s z

pub ok_goes : {A : Type 0} → (r : Result A Stop) → is_err r ≡ false → stop_of r ≡ 0
ok_goes (Ok x) e = refl
ok_goes (Err s) e = absurd (true≢false e)

pub stop_same : (s t : Stop) → stop_number s ≡ stop_number t → s ≡ t
stop_same NoIds NoIds e = refl
stop_same NoIds NoSum e = absurd (omega (arith, e))
stop_same NoSum NoIds e = absurd (omega (arith, e))
stop_same NoSum NoSum e = refl
