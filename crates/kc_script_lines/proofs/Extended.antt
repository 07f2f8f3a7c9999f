-- What a vector has once it was extended by what an iterator yields.
use Rattle.std.proofs.Common.{◌≡◌, List, Option, Result}
use Rattle.std.specs.Prelude.{map}
use Rattle.std.specs.Iterator.{Yields, Drains}
use Rattle.std.specs.Result.{OnOk, MatchResult}
use Rattle.std.proofs.lemmas.Iterator.{YieldsList}
use Rattle.std.proofs.lemmas.Iterator.Adapters.{fact_from_extend}
use Rattle.std.proofs.lemmas.Iterator.Consumers.{YieldsList-at}

pub extended : {T A C E Q : Type 0} {steps : T → Option A → T → Type 0} {all : List C} {P : List A → Type 0} {s : T} (v : A → C) (r : Result (Unit {0}) E) → ((it : T) × (xs : List A) × (it ≡ s) × P xs × MatchResult r (λ _. Drains steps it xs) (λ _. (t : T) × Yields steps it xs t)) → YieldsList steps v s all → ((xs : List A) → map v xs ≡ all → P xs → Q) → OnOk r Q
extended v r ran road says = fact_from_extend v r ran (λ it b. YieldsList-at b road) says
