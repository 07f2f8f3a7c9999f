use Rattle.std.proofs.Common.{List, ℕ, map, string_bytes, refl, subst, arith}
use Rattle.std.specs.Global.{Global}
use Rattle.std.proofs.lemmas.List.{length-map, length-drop}
use Rattle.kc_script_bundle.specs.Script.{script_of}
use Rattle.kc_top.proofs.Commands.{files_named, for_ok, for_err, names_on}
use Rattle.kc_top.proofs.Parts.{slice_on}
use Rattle.kc_top.specs.Reading.{FilesSpell, FilesRefuse}
use Rattle.kc_top.proofs.top.read_bundle.Goals as goal

pub from_files-requires-clause-some : goal.from_files-requires-clause-some
from_files-requires-clause-some g c =
    let named = files_named (map string_bytes c.args.words.now) c.in-Files.setup (rw c.in-Files.is at c.requires) in
    let most = named.0 in
    rw (slice_on c.args.words.now c.in-Files.setup) (omega (arith, most, length-drop c.in-Files.setup (map (string_bytes {Z = Global}) c.args.words.now), length-drop c.in-Files.setup c.args.words.now, length-map c.args.words.now (string_bytes {Z = Global})))

pub from_files-requires-clause-few : goal.from_files-requires-clause-few
from_files-requires-clause-few g c =
    let named = files_named (map string_bytes c.args.words.now) c.in-Files.setup (rw c.in-Files.is at c.requires) in
    let most = named.1 in
    rw (slice_on c.args.words.now c.in-Files.setup) (omega (arith, most, length-drop c.in-Files.setup (map (string_bytes {Z = Global}) c.args.words.now), length-drop c.in-Files.setup c.args.words.now, length-map c.args.words.now (string_bytes {Z = Global})))

pub returns-in-Files-clause-reads : goal.returns-in-Files-clause-reads
returns-in-Files-clause-reads g c =
    rw c.in-Files.is (for_ok c.from_files.result (λ bundle h. (subst (λ (names : List (List ℕ)). FilesSpell g.F.Shelf.files g.F.Shelf.faults g.F.Shelf.sure g.F.Shelf.fetch_gives names c.args.shelf.now c.from_files.new.shelf (script_of bundle)) (names_on c.args.words.now c.in-Files.setup) h, refl)) c.from_files.ensures.spells)

pub returns-in-Files-clause-refuses : goal.returns-in-Files-clause-refuses
returns-in-Files-clause-refuses g c =
    rw c.in-Files.is (for_err c.from_files.result (λ e h. (subst (λ (names : List (List ℕ)). FilesRefuse g.F.Shelf.files g.F.Shelf.faults g.F.Shelf.sure g.F.Shelf.fetch_gives names c.args.shelf.now c.from_files.new.shelf e) (names_on c.args.words.now c.in-Files.setup) h, refl)) c.from_files.ensures.refuses)
