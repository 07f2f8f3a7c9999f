-- Leases that one caller opens and another ends.
use Rattle.std.specs.Prelude.{ℕ, ◌⊎◌, List, [], ◌∷◌}
use Rattle.kc_model.specs.Store.{Store, after}
use Rattle.kc_model.specs.declared.footprint.Entry.{Entry}
use Rattle.kc_text.specs.declared.texts.Texts.{Texts}
use Rattle.kc_text_laws.specs.Holding.{ActsOnTexts, LeavesTexts}
use Rattle.kc_text_laws.specs.Owning.{held_on}

-- applied in order from this store, each entry puts what an operation on the texts puts, or none of the cells, whoever opened what it ends
abbrev pub KeepToTexts : Texts → Store → List Entry → Type 0
KeepToTexts t s [] = Unit {0}
KeepToTexts t s (e ∷ es) = (LeavesTexts t e.footprint ⊎ ActsOnTexts t s e.footprint) × KeepToTexts t (after e.footprint s) es

-- how many leases of text j are open behind these entries, of so many before: those that were opened, less those that were ended
abbrev pub open_leases : Texts → (text : ℕ) → ℕ → List Entry → ℕ
open_leases t j n [] = n
open_leases t j n (e ∷ es) = open_leases t j (held_on t j e.footprint n) es
