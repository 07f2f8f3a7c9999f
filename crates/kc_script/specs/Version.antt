-- What the first lines say: the version, and the limit of a command; and which words a version has.
use Rattle.std.specs.Prelude.{ℕ, Bool, true, false, ◌&&◌, List, codes, Option, Some, None, if◌then◌else◌}
use Rattle.std.specs.Str.{bytes_eq}
use Rattle.kc_model.specs.declared.footprint.TheConstants.{MOST}
use Rattle.kc_script.specs.declared.reader.TheConstants.{FIRST_LIMIT}
use Rattle.kc_script.specs.declared.reader.Version.{Version}
use Rattle.kc_script.specs.declared.reader.Version.TheVariants as version
use Rattle.kc_script_verbs.specs.declared.word.Kind.{Kind}
use Rattle.kc_script_verbs.specs.declared.word.Kind.TheVariants as kind
use Rattle.kc_script_verbs.specs.declared.word.Word.{Word}
use Rattle.kc_script_verbs.specs.declared.word.Word.TheVariants as word

abbrev pub is_second : Version → Bool
is_second version.Old = false
is_second _ = true

abbrev pub is_new : Version → Bool
is_new version.New = true
is_new _ = false

-- this first word is that of a limit
abbrev pub knows_limit : Version → List ℕ → Bool
knows_limit v first = bytes_eq first (codes "limit") && is_second v

-- what a header with this word says
abbrev pub version_of : List ℕ → Option Version
version_of word = if bytes_eq word (codes "1") then Some version.Old else (if bytes_eq word (codes "2") then Some version.New else None)

-- the limit of the commands
abbrev pub limit_of : Version → ℕ
limit_of (version.Limited n) = n
limit_of version.New = MOST
limit_of version.Old = FIRST_LIMIT

-- a version has this kind of objects: the first has no table that grows
abbrev pub has_kind : Version → Kind → Bool
has_kind version.Old kind.Grow = false
has_kind _ _ = true

-- the word that begins a line, where the version has it
abbrev pub word_in : Version → Option Word → Option Word
word_in v (Some (word.Declare k)) = if has_kind v k then Some (word.Declare k) else None
word_in v w = w
