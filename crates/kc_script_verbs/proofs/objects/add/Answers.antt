use Rattle.std.proofs.Common.{◌≡◌, ◌∙◌, ◌++◌, ◌∷◌, [], ap, List, ℕ}
use Rattle.std.specs.Prelude.{map}
use Rattle.std.specs.String.{string_bytes}
use Rattle.kc_script_bundle.specs.Script.{named, names_of}
use Rattle.kc_script_verbs.proofs.Names.{added}
use Rattle.kc_script_verbs.specs.Objects.{object_of}
use Rattle.kc_script_verbs.proofs.objects.add.Goals as goal

pub returns-clause-ok : goal.returns-clause-ok
returns-clause-ok c =
    let m = c.args.objects.now in
    let same : string_bytes c.in_ok-from_str.field-0 ≡ c.args.name.now = c.in_ok-from_str.ensures.ok in
    ap (map named) c.in_ok-insert.ensures.entries ∙ added m c.in_ok-from_str.field-0 c.args.object (ap (object_of (names_of m)) same ∙ c.requires) ∙ ap (λ (name : List ℕ). names_of m ++ (name, c.args.object) ∷ []) same
