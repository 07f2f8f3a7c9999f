-- Reading files one after the other, as a loop does.
use Rattle.std.proofs.Common.{◌≡◌, ℕ, ◌+◌, ◌<◌, ◌≤◌, List, length, get_or, drop, Result, Ok, sym, ap, ◌∙◌}
use Rattle.std.specs.Prelude.{map}
use Rattle.std.proofs.lemmas.List.{drop_more, drop_all}
use Rattle.kc_script.specs.declared.part_error.PartError.{PartError}
use Rattle.kc_script.specs.declared.part_error.PartError.TheVariants as error
use Rattle.kc_script.specs.Parts.{PartFault}
use Rattle.kc_script.specs.Reading.{ReadingState, begun_thread, then_read, part_read, of_part, files_read, PartStops}

module _ {X : Type 0} (seen : X → List ℕ) (files : List X) (i thread : ℕ) (d : X) (s : ReadingState) (total : Result ReadingState PartFault) (so_far : files_read s thread (map seen (drop i files)) ≡ total) where
  abbrev later : ReadingState → Result ReadingState PartFault
  later next = files_read next (thread + 1) (map seen (drop (i + 1) files))

  -- the file at the index, and the rest
  here : i < length files → total ≡ then_read (of_part (thread + 1) (part_read (begun_thread s thread) (seen (get_or files i d)))) later
  unfolding files_read
  here lt = sym so_far ∙ ap (λ (rest : List X). files_read s thread (map seen rest)) (drop_more files i d lt)

  module _ (begun : ReadingState) (text : List ℕ) (in_it : begun ≡ begun_thread s thread) (its : text ≡ seen (get_or files i d)) (lt : i < length files) where
    abbrev file : Result ReadingState PartFault
    file = of_part (thread + 1) (part_read begun text)

    now : total ≡ then_read file later
    now = rw (in_it, its) (here lt)

    -- a file was read, and the rest is still to be read
    pub goes_on : (next : ReadingState) → file ≡ Ok next → later next ≡ total
    goes_on next e = sym (now ∙ ap (λ (r : Result ReadingState PartFault). then_read r later) e)

    -- what is wrong with a file is what is wrong with all
    pub ends : (e : PartError) → PartStops e file → PartStops e total
    ends error.NoMemory h = tt
    ends (error.Fault part at why) h = now ∙ ap (λ (r : Result ReadingState PartFault). then_read r later) h

-- no file is left
pub is_done : {X : Type 0} (seen : X → List ℕ) (files : List X) (i thread : ℕ) (s : ReadingState) (total : Result ReadingState PartFault) → files_read s thread (map seen (drop i files)) ≡ total → length files ≤ i → total ≡ Ok s
unfolding files_read
is_done {X} seen files i thread s total so_far le = sym so_far ∙ ap (λ (rest : List X). files_read s thread (map seen rest)) (drop_all i files le)
