use Rattle.std.proofs.Common.{◌++◌, ◌∷◌, [], take, length, ◌<◌, ap, sym, ◌∙◌, arith, append_assoc}
use Rattle.std.proofs.lemmas.Option.{get_or_from_slice_get}
use Rattle.std.proofs.lemmas.List.{take_more}
use Rattle.kc_term.proofs.items.add_all.Goals as goal

pub loop-i-preserved : goal.loop-i-preserved
loop-i-preserved c =
    let lt : c.loop-i.i < length c.args.more = omega arith in
    let e = get_or_from_slice_get c.args.more c.loop-i.i c.get.result c.get.result c.get.ensures in
    let m = take_more c.args.more c.loop-i.i c.get.result lt in
    c.push.ensures ∙ ap (λ xs. xs ++ c.get.result ∷ []) c.loop-i.invariant ∙ append_assoc c.args.items.now (take c.loop-i.i c.args.more) (c.get.result ∷ []) ∙ ap (λ xs. c.args.items.now ++ xs) (ap (λ y. take c.loop-i.i c.args.more ++ y ∷ []) (sym e) ∙ sym m)
