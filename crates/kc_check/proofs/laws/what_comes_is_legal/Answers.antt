use Rattle.kc_script_runs.specs.Run.{opening_store}
use Rattle.kc_check.proofs.Counting.{all_stand, legal_of}
use Rattle.kc_check.proofs.laws.what_comes_is_legal.Goals as goal

pub returns : goal.returns
returns c s parts last records each count whole =
    let none = all_stand s.threads records whole.comes.labelled parts.places whole.stand each whole.comes.turns count in
    legal_of s.limit s.threads records (λ _. 0) whole.stand (opening_store s) last parts.places whole.comes.turns none whole.comes.replays
