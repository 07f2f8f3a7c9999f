-- What a map of names has, as the list of its entries has it.
use Rattle.std.proofs.Common.{◌≡◌, ℕ, cond, List, [], ◌∷◌, ◌++◌, Option, Some, None, true, is_some, refl, sym, ap, ◌∙◌}
use Rattle.std.specs.Prelude.{map, String}
use Rattle.std.specs.Str.{bytes_eq}
use Rattle.std.specs.String.{string_bytes, string_eq}
use Rattle.std.specs.Global.{Global}
use Rattle.std.specs.HashMap.{get_by_text}
use Rattle.std.specs.Map.{lookup}
use Rattle.std.proofs.lemmas.List.{map-append}
use Rattle.indexmap.specs.IndexMap.{insert_entry, get}
use Rattle.indexmap.proofs.CallerLemmas.{insert_entry-new}
use Rattle.kc_script_bundle.specs.Script.{Objects, named, names_of}
use Rattle.kc_script_bundle.specs.declared.object.Object.{Object}
use Rattle.kc_script_verbs.specs.Objects.{object_of}

-- a look-up in the map is one in the list
pub found : (m : Objects) (name : List ℕ) → get_by_text m name ≡ object_of (names_of m) name
found m name = over m.entries where
  over : (es : List (String Global × Object)) → lookup (λ k. bytes_eq name (string_bytes k)) es ≡ object_of (map named es) name
  over [] = refl
  over (e ∷ es) = ap (λ (rest : Option Object). cond (bytes_eq name (string_bytes e.0)) (Some e.1) rest) (over es)

-- an entry with a new name stands at the end
pub added : (m : Objects) (key : String Global) (object : Object) → object_of (names_of m) (string_bytes key) ≡ None → map named (insert_entry string_eq m.entries key object) ≡ names_of m ++ (string_bytes key, object) ∷ []
added m key object none =
    ap (map named) (insert_entry-new string_eq m key object (found m (string_bytes key) ∙ none)) ∙ map-append named m.entries ((key, object) ∷ [])

-- what the entry of a new name leaves once it was written
pub put : (m w : Objects) (es : List (String Global × Object)) (key : String Global) (object : Object) (name : List ℕ) → es ≡ w.entries → w.entries ≡ insert_entry string_eq m.entries key object → string_bytes key ≡ name → object_of (names_of m) name ≡ None → map named es ≡ names_of m ++ (name, object) ∷ []
put m w es key object name e wrote same none =
    ap (map named) e ∙ ap (map named) wrote ∙ added m key object (ap (object_of (names_of m)) same ∙ none) ∙ ap (λ (name : List ℕ). names_of m ++ (name, object) ∷ []) same

-- a name under which the map has no object
pub none_at : (m : Objects) (key : String Global) (name : List ℕ) → string_bytes key ≡ name → get string_eq m key ≡ None → object_of (names_of m) name ≡ None
none_at m key name same none = ap (object_of (names_of m)) (sym same) ∙ sym (found m (string_bytes key)) ∙ none

-- a name under which it has one
pub some_at : (m : Objects) (key : String Global) (name : List ℕ) → string_bytes key ≡ name → is_some (get string_eq m key) ≡ true → is_some (object_of (names_of m) name) ≡ true
some_at m key name same there = ap (λ (n : List ℕ). is_some (object_of (names_of m) n)) (sym same) ∙ ap is_some (sym (found m (string_bytes key))) ∙ there
