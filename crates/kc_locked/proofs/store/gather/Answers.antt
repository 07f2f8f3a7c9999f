use Rattle.std.proofs.Common.{◌≡◌, arith, sym, ap, ◌∙◌, rules, subst, append_assoc, ◌++◌, ◌∷◌, []}
use Rattle.std.specs.Prelude.{All}
use Rattle.kc_locked.proofs.Ends.{arrives, gathers, all_at, comes_back}
use Rattle.kc_locked.specs.Locked.{MatchesPasses}
use Rattle.kc_locked.specs.Passes.{PassView}
use Rattle.kc_locked.proofs.store.gather.Goals as goal

pub load_new_seat-requires : goal.load_new_seat-requires
load_new_seat-requires c = let i = c.requires.words in (omega arith, arrives _ _ _)

pub join_seat-requires : goal.join_seat-requires
join_seat-requires c =
    let i = c.requires.words in
    let all : c.loop-pass.yielded ++ c.in-Some.pass ∷ c.next.new.self.rest.items ≡ c.args.passes.items = ap (λ l. c.loop-pass.yielded ++ l) (sym c.in-Some.ensures.steps.0) ∙ c.loop-pass.invariant.all in
    let table = all_at (λ (s : PassView). s.table ≡ c.args.memory.now.table_id) c.loop-pass.yielded _ _ (subst (All (λ (s : PassView). s.table ≡ c.args.memory.now.table_id)) (sym all) c.requires.table) in (
      c.loop-pass.invariant.table,
      ap (λ v. v.table) c.pass.view_is ∙ table,
      ap (λ m. m.1) c.pass.invariant.0,
      omega arith,
      gathers _ _ _ _ _ (ap (λ m. m.0.holds) c.pass.invariant.0),
    )

pub loop-pass-preserved : goal.loop-pass-preserved
loop-pass-preserved c = record {
  table = search rules;
  all = append_assoc c.loop-pass.yielded (c.in-Some.pass ∷ []) c.next.new.self.rest.items ∙ (ap (λ l. c.loop-pass.yielded ++ l) (sym c.in-Some.ensures.steps.0) ∙ c.loop-pass.invariant.all);
  matches = subst (λ m. MatchesPasses m.0.parts (c.loop-pass.yielded ++ c.in-Some.pass ∷ [])) (sym c.join_seat.ensures.2)
      (comes_back c.pass.inside.token.me _ _ _ c.loop-pass.keeper.me.0.parts c.loop-pass.yielded c.in-Some.pass c.pass.invariant.0 (sym (ap (λ v. v.caller) c.pass.view_is)) (sym (ap (λ v. v.own) c.pass.view_is)) c.loop-pass.invariant.matches);
}
