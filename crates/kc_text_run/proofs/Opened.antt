-- A store for two callers as it opens.
use Rattle.std.proofs.Common.{◌≡◌, ℕ, List, length, replicate, get_or, ap, ◌∙◌, arith}
use Rattle.std.proofs.lemmas.List.{length-replicate}
use Rattle.kc_run.proofs.Passes.{opens, opens_at_zero, first_shows}
use Rattle.kc_store.specs.Views.{CallerView, StoreView, caller_view, opened_callers}
use Rattle.kc_store.specs.Knows.{OpensWith}
use Rattle.kc_store.specs.kc_table_moves.Views.{OpensAt}
use Rattle.kc_text.specs.Meaning.{texts_cells_end}
use Rattle.kc_text.specs.declared.texts.Texts.{Texts}
use Rattle.kc_text_run.specs.Picking.{IsForTwo}

module _ (t : Texts) (values : List ℕ) (z : StoreView) (callers : List CallerView) (zeros : values ≡ replicate (texts_cells_end t) 0) (at : OpensAt values (replicate (length values) 0) 2 0 z.table) (with : OpensWith values (replicate (length values) 0) 2 z) (dealt : callers ≡ opened_callers z 0 2) where
  pub is_for_two : (c d : CallerView) → c ≡ get_or callers 0 d → c ≡ caller_view c.worn c.seat → IsForTwo t z
  is_for_two c d first shown =
      let view = first_shows z 2 callers c d dealt (omega arith) first shown in
      let opened = opens values z callers 2 at view dealt in
      record {
        zeros = opened.opening ∙ zeros;
        versions = opens_at_zero values 2 0 z at view;
        lives = at.first;
        locations = with.locations ∙ ap length zeros ∙ length-replicate (texts_cells_end t) 0;
        callers = opened.callers_are;
      }
