use Rattle.std.proofs.Common.{rules, ◌≡◌, replicate}
use Rattle.kc_text.specs.Meaning.{texts_cells_end}
use Rattle.kc_text_run.proofs.Opened.{is_for_two}
use Rattle.kc_text_run.proofs.opening.open_for_two.Goals as goal

pub returns-clause-store : goal.returns-clause-store
returns-clause-store c =
    let o = c.in-Ok-open.ensures.ok in
    let zeros : c.as_slice.result.now ≡ replicate (texts_cells_end c.args.texts.now) 0 = search rules in
    is_for_two c.args.texts.now c.as_slice.result.now c.in-Ok-open.store c.in-Ok-open.callers.items zeros o.0 c.in-Ok-open.ensures.opens o.1 c.index.result.now _ c.index.ensures c.shows.ensures.view
