-- The form of a text, line by line.
use Rattle.std.specs.Prelude.{◌≡◌, ◌≢◌, ◌⊎◌, ℕ, zero, suc, ◌+◌, ◌<◌, List, [], ◌∷◌, ◌++◌, All, length, replicate, map, codes, decimal}
use Rattle.std.specs.List.{flat_map}
use Rattle.kc_history.specs.Text.{answer_text}
use Rattle.kc_history.specs.declared.record.Place.{Place}
use Rattle.kc_model.specs.declared.reply.Answer.{Answer}
use Rattle.kc_script_bundle.specs.Script.{Script, Names as Objects}
use Rattle.kc_script_bundle.specs.declared.object.Object.{Object}
use Rattle.kc_script_bundle.specs.declared.operation.Command.{Command}
use Rattle.kc_script_small.specs.Small.{AnswerFits}
use Rattle.kc_check.specs.Parts.{Parts, IsThreadPlace, joined_lines, place_text, parts_text, places_in}

-- ---- the shape of a line

-- the line of a thread's command says an answer
pub record IsReply (thread number : ℕ) (line : List ℕ) : Type 0 where
  pub says : Answer
  pub fits : AnswerFits says
  pub spelled : line ≡ decimal thread ++ codes "." ++ decimal number ++ codes " " ++ answer_text says ++ codes "\n"

-- some bytes, none of them a space or a newline
pub record IsWord (word : List ℕ) : Type 0 where
  pub some : 0 < length word
  pub solid : All (λ b. (b ≢ 32) × (b ≢ 10)) word

-- the name, and words behind it
pub record IsHeld (name line : List ℕ) : Type 0 where
  pub words : List (List ℕ)
  pub each : All IsWord words
  pub spelled : line ≡ name ++ flat_map (λ word. codes " " ++ word) words ++ codes "\n"

-- the line names a place of the threads
pub record NamesPlace (threads : List (List Command)) (line : List ℕ) : Type 0 where
  pub at : Place
  pub is : IsThreadPlace threads at
  pub spelled : line ≡ place_text threads at

-- what a line has to be: the reply of the thread's command of this number, just these bytes, a place, or what the object of this name holds
pub data Shape : Type 0 where
  answers : ℕ → ℕ → Shape
  just : List ℕ → Shape
  place : Shape
  holds : List ℕ → Shape

abbrev pub HasShape : List (List Command) → Shape → List ℕ → Type 0
HasShape threads (answers thread number) line = IsReply thread number line
HasShape threads (just bytes) line = line ≡ bytes
HasShape threads place line = NamesPlace threads line
HasShape threads (holds name) line = IsHeld name line

-- of so many commands of a thread, numbered from here on
abbrev pub thread_shapes : ℕ → ℕ → ℕ → List Shape
thread_shapes thread number zero = []
thread_shapes thread number (suc n) = answers thread number ∷ thread_shapes thread (number + 1) n

abbrev pub replies_shapes : ℕ → List (List Command) → List Shape
replies_shapes thread [] = []
replies_shapes thread (cs ∷ threads) = thread_shapes thread 1 (length cs) ++ replies_shapes (thread + 1) threads

-- the shapes of the lines of a script's text, in order
abbrev pub shapes : Script → List Shape
shapes s = replies_shapes 1 s.threads ++ (just (codes "order\n") ∷ (replicate (places_in s.threads) place ++ (just (codes "state\n") ∷ map (λ (entry : List ℕ × Object). holds entry.0) s.objects)))

abbrev pub AreShaped : List (List Command) → List Shape → List (List ℕ) → Type 0
AreShaped threads [] [] = Unit {0}
AreShaped threads (k ∷ ks) (l ∷ ls) = HasShape threads k l × AreShaped threads ks ls
AreShaped threads [] (l ∷ ls) = ⊥
AreShaped threads (k ∷ ks) [] = ⊥

-- no line of this shape comes
abbrev pub LacksLine : List (List Command) → Shape → List ℕ → Type 0
LacksLine threads k text = (line rest : List ℕ) → HasShape threads k line → text ≢ line ++ rest

-- Where lines of these shapes are to come, and nothing behind them, this line is the first that doesn't: those before it come. The first has the number n.
abbrev pub FailsAt : List (List Command) → List Shape → List ℕ → ℕ → ℕ → Type 0
FailsAt threads [] text n line = (text ≢ []) × (line ≡ n)
FailsAt threads (k ∷ ks) text n line = (LacksLine threads k text × (line ≡ n)) ⊎ ((first : List ℕ) × (rest : List ℕ) × HasShape threads k first × (text ≡ first ++ rest) × FailsAt threads ks rest (n + 1) line)

abbrev pub IsMisformed : Script → List ℕ → ℕ → Type 0
IsMisformed s text line = FailsAt s.threads (shapes s) text 1 line

-- lines of these shapes come, and lead from a text and a number to the rest and its number
pub record GoesOverLines (threads : List (List Command)) (ks : List Shape) (text : List ℕ) (n : ℕ) (lines : List (List ℕ)) (rest : List ℕ) (m : ℕ) : Type 0 where
  pub shaped : AreShaped threads ks lines
  pub spelled : text ≡ joined_lines lines ++ rest
  pub number : m ≡ n + length lines

-- the lines of lists of lines
abbrev pub flat : List (List (List ℕ)) → List (List ℕ)
flat replies = flat_map (λ (lines : List (List ℕ)). lines) replies

-- ---- the form as a whole

abbrev pub AreReplies : ℕ → ℕ → List Command → List (List ℕ) → Type 0
AreReplies thread number [] [] = Unit {0}
AreReplies thread number (c ∷ cs) (l ∷ ls) = IsReply thread number l × AreReplies thread (number + 1) cs ls
AreReplies thread number [] (l ∷ ls) = ⊥
AreReplies thread number (c ∷ cs) [] = ⊥

abbrev pub AllReplies : ℕ → List (List Command) → List (List (List ℕ)) → Type 0
AllReplies thread [] [] = Unit {0}
AllReplies thread (cs ∷ threads) (ls ∷ replies) = AreReplies thread 1 cs ls × AllReplies (thread + 1) threads replies
AllReplies thread [] (ls ∷ replies) = ⊥
AllReplies thread (cs ∷ threads) [] = ⊥

abbrev pub AreHeld : Objects → List (List ℕ) → Type 0
AreHeld [] [] = Unit {0}
AreHeld (entry ∷ names) (l ∷ ls) = IsHeld entry.0 l × AreHeld names ls
AreHeld [] (l ∷ ls) = ⊥
AreHeld (entry ∷ names) [] = ⊥

-- the text has the form of a text of the script, and these are its parts
pub record IsFormed (s : Script) (text : List ℕ) (parts : Parts) : Type 0 where
  pub replies : AllReplies 1 s.threads parts.replies
  pub places : All (IsThreadPlace s.threads) parts.places
  pub count : length parts.places ≡ places_in s.threads
  pub state : AreHeld s.objects parts.state
  pub spelled : text ≡ parts_text s.threads parts
