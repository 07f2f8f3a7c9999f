use Rattle.std.proofs.Common.{◌≡◌, sym, ◌∙◌, eqb-true}
use Rattle.kc_c.specs.Tries.{verdict_number}
use Rattle.kc_c.specs.declared.answers.TheConstants.{DONE}
use Rattle.kc_store.specs.Verdicts.{verdict_as}
use Rattle.kc_xt.specs.Commit.{tried_of}
use Rattle.kc_c.proofs.trying.try_silently.Goals as goal

pub returns-then-is_done : goal.returns-then-is_done
returns-then-is_done g c =
    let v = verdict_as c.try_in_place-fate.result (tried_of c.try_in_place-fate.new.trial.went c.try_in_place-fate.new.trial.reply) in
    let is : verdict_number v ≡ DONE = eqb-true _ _ (sym c.is_done.ensures ∙ c.if-is_done.true) in
    record {
      verdict = v;
      number = sym is;
      tells = c.try_in_place-fate.ensures.told;
      settles = c.try_in_place-fate.ensures.settles;
      notes = c.try_in_place-fate.ensures.notes;
      remembers = c.try_in_place-fate.ensures.remembers;
      within = c.try_in_place-fate.ensures.within;
    }

pub returns : goal.returns
returns g c = record {
  verdict = verdict_as c.try_in_place-fate.result (tried_of c.try_in_place-fate.new.trial.went c.try_in_place-fate.new.trial.reply);
  number = c.number_of.ensures _;
  tells = c.try_in_place-fate.ensures.told;
  settles = c.try_in_place-fate.ensures.settles;
  notes = c.try_in_place-fate.ensures.notes;
  remembers = c.try_in_place-fate.ensures.remembers;
  within = c.try_in_place-fate.ensures.within;
}
