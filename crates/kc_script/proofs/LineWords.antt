-- The words that begin lines of threads and blocks.
use Rattle.std.proofs.Common.{◌≡◌, ℕ, Bool, true, false, cond, List, [], ◌∷◌, Option, Some, None, refl, sym, ap, ◌∙◌}
use Rattle.std.specs.Prelude.{codes}
use Rattle.kc_script.specs.Version.{has_kind, word_in}
use Rattle.kc_script.specs.declared.reader.Version.{Version}
use Rattle.kc_script_verbs.specs.declared.word.Kind.{Kind}
use Rattle.kc_script_verbs.specs.declared.word.Word.{Word}
use Rattle.kc_script_verbs.specs.declared.word.Word.TheVariants as word
use Rattle.kc_script_verbs.proofs.Texts.{word_has}
use Rattle.kc_script_verbs.specs.Words.{word_of}

-- a line of one word
pub lone : (first w : List ℕ) (args : List (List ℕ)) → first ≡ w → args ≡ [] → first ∷ args ≡ w ∷ []
lone first w args e f = cc

-- a word that the version has
pub known_is : (ver : Version) (w : Option Word) (x : Word) → word_in ver w ≡ Some x → w ≡ Some x
known_is ver None x e = absurd cc
known_is ver (Some word.Thread) x e = e
known_is ver (Some word.Atomic) x e = e
known_is ver (Some word.Or) x e = e
known_is ver (Some word.End) x e = e
known_is ver (Some (word.Say v)) x e = e
known_is ver (Some (word.Declare k)) x e = by (has_kind ver k) e where
  by : (b : Bool) → cond b (Some (word.Declare k)) None ≡ Some x → Some (word.Declare k) ≡ Some x
  by true e = e
  by false e = absurd cc

-- its kind, where it declares
pub kind_known : (ver : Version) (w : Option Word) (k : Kind) → word_in ver w ≡ Some (word.Declare k) → has_kind ver k ≡ true
kind_known ver None k e = absurd cc
kind_known ver (Some word.Thread) k e = absurd cc
kind_known ver (Some word.Atomic) k e = absurd cc
kind_known ver (Some word.Or) k e = absurd cc
kind_known ver (Some word.End) k e = absurd cc
kind_known ver (Some (word.Say v)) k e = absurd cc
kind_known ver (Some (word.Declare j)) k e = by (has_kind ver j) refl e where
  by : (b : Bool) → has_kind ver j ≡ b → cond b (Some (word.Declare j)) None ≡ Some (word.Declare k) → has_kind ver k ≡ true
  by true h e = let same : j ≡ k = cc in ap (has_kind ver) (sym same) ∙ h
  by false h e = absurd cc

module _ (ver : Version) (w : List ℕ) where
  pub thread_word : word_in ver (word_of w) ≡ Some word.Thread → w ≡ codes "thread"
  thread_word h = word_has w word.Thread (known_is ver (word_of w) word.Thread h)

  pub atomic_word : word_in ver (word_of w) ≡ Some word.Atomic → w ≡ codes "atomic"
  atomic_word h = word_has w word.Atomic (known_is ver (word_of w) word.Atomic h)

  pub or_word : word_in ver (word_of w) ≡ Some word.Or → w ≡ codes "or"
  or_word h = word_has w word.Or (known_is ver (word_of w) word.Or h)

  pub end_word : word_in ver (word_of w) ≡ Some word.End → w ≡ codes "end"
  end_word h = word_has w word.End (known_is ver (word_of w) word.End h)
