use Rattle.std.proofs.Common.{◌∷◌, [], Some, ap, ◌∙◌, sym, arith}
use Rattle.kc_cells.proofs.TwoWords.{two_of}
use Rattle.kc_cells.specs.Wide.{low_word}
use Rattle.kc_model.specs.declared.reply.Item.TheVariants as item
use Rattle.kc_cells.proofs.words.number_among.Goals as goal

pub returns-in-Value-Value-clause-said : goal.returns-in-Value-Value-clause-said
returns-in-Value-Value-clause-said c =
    let low = c.in-Value-Value.low in
    let high = c.in-Value-Value.high in
    two_of c.args.items.now (item.Value low) (item.Value high) (omega arith) (c.get.ensures ∙ ap Some c.in-Value-Value.is-0) (c.get-2.ensures ∙ ap Some c.in-Value-Value.is-1)
    ∙ ap (λ w. item.Value w ∷ item.Value high ∷ []) (sym c.number_of.ensures.low) ∙ ap (λ w. item.Value (low_word c.number_of.result) ∷ item.Value w ∷ []) (sym c.number_of.ensures.high)
