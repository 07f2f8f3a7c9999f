use Rattle.std.proofs.Common.{◌≡◌, Ok, length, refl, vec_len}
use Rattle.std.specs.declared.alloc.AllocError.{AllocError}
use Rattle.std.proofs.lemmas.Iterator.Adapters.{fact_from_collect, YieldsList-from_vec}
use Rattle.kcas.proofs.words.words_of.Goals as goal

pub returns-in-Ok-collect-clause-words : goal.returns-in-Ok-collect-clause-words
returns-in-Ok-collect-clause-words c =
    let all = fact_from_collect {E = AllocError} (λ xs v. (v.items ≡ xs) × (vec_len v ≡ length xs)) (Ok c.in-Ok-collect.words) c.in-Ok-collect.ensures.ran (YieldsList-from_vec {s = c.in-Ok.words} _ refl c.in-Ok.words.rest.ok.0) in
    rw c.in-Ok.is all.0
