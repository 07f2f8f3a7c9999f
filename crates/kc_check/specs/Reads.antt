-- How reading a part of a text ends.
use Rattle.std.specs.Prelude.{◌≡◌, ◌≢◌, ℕ, ◌+◌, ◌^◌, ◌<◌, ◌≤◌, List, [], ◌∷◌, ◌++◌, All, length, codes, decimal, Vec, vec_capacity}
use Rattle.std.specs.Global.{Global}
use Rattle.std.specs.List.{flat_map}
use Rattle.kc_script_bundle.specs.Script.{Names, Script}
use Rattle.kc_script_bundle.specs.declared.object.Object.{Object}
use Rattle.kc_script_bundle.specs.declared.operation.Command.{Command}
use Rattle.kc_check.specs.Forms.{FailsAt, IsReply, IsWord, LacksLine, Shape, shapes}
use Rattle.kc_script_small.specs.Small.{AnswerFits, ItemFits}
use Rattle.kc_check.specs.Laid.{ByteIsMissing}
use Rattle.kc_check.specs.Parts.{mark_at}
use Rattle.kc_history.specs.Text.{answer_text, item_text, items_text, mark_text}
use Rattle.kc_model.specs.declared.reply.Answer.{Answer}
use Rattle.kc_model.specs.declared.reply.Item.{Item}
use Rattle.kc_check.specs.declared.error.CheckError.{CheckError}
use Rattle.kc_check.specs.declared.error.CheckError.TheVariants as error
use Rattle.kc_check.specs.declared.error.CheckWhy.TheVariants as why

-- a line of these shapes is missing, whatever follows them
abbrev pub FailsHowever : List (List Command) → List Shape → List ℕ → ℕ → CheckError → Type 0
FailsHowever threads ks text n (error.Fault line why.Form) = (more : List Shape) → FailsAt threads (ks ++ more) text n line
FailsHowever threads ks text n other = ⊥

-- no reply of the thread's command comes
abbrev pub LacksReply : ℕ → ℕ → List ℕ → ℕ → CheckError → Type 0
LacksReply thread number text n (error.Fault line why.Form) = ((first rest : List ℕ) → IsReply thread number first → text ≢ first ++ rest) × (line ≡ n)
LacksReply thread number text n other = ⊥

-- it is the text of a number of 32 bits
abbrev pub IsPlainNumber : List ℕ → Type 0
IsPlainNumber word = (n : ℕ) × (n < 2 ^ 32) × (word ≡ decimal n)

-- it is what an item says that fits
abbrev pub SaysItem : List ℕ → Type 0
SaysItem word = (i : Item) × ItemFits i × (word ≡ item_text i)

-- it is what 1 to so many items say that fit
pub record SayItems (most : ℕ) (text : List ℕ) : Type 0 where
  pub first : Item
  pub others : List Item
  pub fits : ItemFits first
  pub fit : All ItemFits others
  pub few : length others + 1 ≤ most
  pub spelled : text ≡ items_text (first ∷ others)

-- it is what an answer says that fits
abbrev pub SaysAnswer : List ℕ → Type 0
SaysAnswer text = (a : Answer) × AnswerFits a × (text ≡ answer_text a)

-- the bytes don't begin so
abbrev pub IsNoFront : List ℕ → List ℕ → Type 0
IsNoFront front bytes = (rest : List ℕ) → bytes ≢ front ++ rest

-- it is no number of a command among so many, nor an end
abbrev pub NamesNone : ℕ → List ℕ → Type 0
NamesNone commands text = (index : ℕ) → index ≤ commands → text ≢ mark_text (mark_at commands index) ++ codes "\n"

-- words, with a space before each
abbrev pub spaced : List (List ℕ) → List ℕ
spaced words = flat_map (λ (word : List ℕ). codes " " ++ word) words

abbrev pub SaysWords : List ℕ → Type 0
SaysWords text = (words : List (List ℕ)) × All IsWord words × (text ≡ spaced words)

-- a word, and words behind it
abbrev pub SaysSpaced : List ℕ → Type 0
SaysSpaced text = (word : List ℕ) × (words : List (List ℕ)) × IsWord word × All IsWord words × (text ≡ word ++ spaced words)

-- no line of this shape comes, and this is its number
abbrev pub LacksHere : List (List Command) → Shape → List ℕ → ℕ → CheckError → Type 0
LacksHere threads k text n (error.Fault line why.Form) = LacksLine threads k text × (line ≡ n)
LacksHere threads k text n other = ⊥

-- lines of these shapes, and nothing behind them, don't come
abbrev pub FailsSo : List (List Command) → List Shape → List ℕ → ℕ → CheckError → Type 0
FailsSo threads ks text n (error.Fault line why.Form) = FailsAt threads ks text n line
FailsSo threads ks text n other = ⊥

-- the text hasn't the form
abbrev pub FailsForm : Script → List ℕ → CheckError → Type 0
FailsForm s text e = FailsSo s.threads (shapes s) text 1 e

-- no name has a newline
abbrev pub HaveNames : Names → Type 0
HaveNames names = All (λ (entry : List ℕ × Object). ByteIsMissing 10 entry.0) names

-- what is left lies at the end of the text
abbrev pub IsEndOf : List ℕ → List ℕ → Type 0
IsEndOf text rest = (front : List ℕ) × (text ≡ front ++ rest)

-- the lists are empty, and each has room for the replies of its thread
abbrev pub HaveSpace : List (List Command) → List (Vec ℕ Global) → Type 0
HaveSpace [] [] = Unit {0}
HaveSpace (cs ∷ threads) (v ∷ vs) = (v.items ≡ []) × (length cs ≤ vec_capacity v) × HaveSpace threads vs
HaveSpace [] (v ∷ vs) = ⊥
HaveSpace (cs ∷ threads) [] = ⊥
