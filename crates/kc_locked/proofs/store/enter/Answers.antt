use Rattle.std.proofs.Common.{◌∷◌, refl, ap, subst, ◌∙◌, sym}
use Rattle.atomic_table.specs.Table.{rest}
use Rattle.kc_history.specs.Callers.{record_entry}
use Rattle.kc_locked.proofs.Enters.{found_is, entered, back}
use Rattle.kc_locked.specs.Held.{IsSound}
use Rattle.kc_locked.specs.Locked.{Grown, entered_by}
use Rattle.kc_locked.proofs.store.enter.Goals as goal

pub slot_mut-requires : goal.slot_mut-requires
slot_mut-requires g c = (c.requires.table, (c.args.token.now.me.0.found, c.requires.holds ∙ ap (λ l. (0, c.args.token.now.me.0.found) ∷ rest l) (sym c.requires.holds)))

pub returns-clause-entered : goal.returns-clause-entered
returns-clause-entered g c =
    let was = c.args.token.now.me in
    let e = record_entry c.args.caller c.args.number c.commit_into.new.footprint in
    let same = found_is was.0.found c.slot_mut.result.now _ _ c.requires.holds c.slot_mut.ensures.value in
    let sound : IsSound c.slot_mut.result.now = subst IsSound (sym same) c.requires.sound in (
      c.commit_into.new.self,
      back was _ was.0.found c.commit_into.new.self c.requires.holds refl,
      subst (λ h. Grown c.args.caller (entered_by c.commit_into.result e) h c.commit_into.new.self) same (entered _ _ c.slot_mut.result.now _ e c.commit_into.result sound c.commit_into.ensures.answer c.commit_into.ensures.unchanged),
    )
