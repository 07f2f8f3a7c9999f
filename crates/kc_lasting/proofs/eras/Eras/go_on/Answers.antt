use Rattle.std.proofs.Common.{◌≡◌, true, rules, refl}
use Rattle.kc_lasting.proofs.Kept.{end_kept, kept_on}
use Rattle.kc_lasting.proofs.eras.Eras.go_on.Goals as goal

pub put_end-requires-clause-kept : goal.put_end-requires-clause-kept
put_end-requires-clause-kept c =
    let is : c.write_next.result ≡ true = search rules in
    kept_on c.args.self.now c.args.next c.write_next.new.page c.args.roll.now c.requires.kept c.requires.next c.write_next.ensures.of (c.write_next.ensures.written is)

pub put_end-requires-clause-end : goal.put_end-requires-clause-end
put_end-requires-clause-end c =
    let is : c.write_next.result ≡ true = search rules in
    end_kept c.args.self.now c.args.next c.write_next.new.page c.args.roll.now c.requires.kept c.requires.next c.write_next.ensures.of (c.write_next.ensures.written is) _ refl refl refl
