-- `blur_span` is the rule's value: itself up to 2, else the mean of nine, which fits since each term of the sum does.
use native.Mathlib.Omega.{arith}
use Rattle.distance.proofs.Values.{con_in}
use Rattle.distance.proofs.Blurs.{blur-stays, blur_mean}
use borrow.Author.Rules.{rules}
use Rattle.distance.proofs.blur.blur_span.Goals as goal

pub bounds-raw-p : goal.bounds-raw-p
bounds-raw-p c = omega (arith, c.requires.1.span)

pub returns-then-v-le-THRESHOLD : goal.returns-then-v-le-THRESHOLD
returns-then-v-le-THRESHOLD c = search (rules, blur-stays)

pub connections-cons-requires : goal.connections-cons-requires
connections-cons-requires c = con_in _ c.requires.0 _ _ c.requires.1

pub returns : goal.returns
returns c = search (rules, blur_mean)
