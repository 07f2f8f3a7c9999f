-- The text of lines, piece by piece.
use Rattle.std.proofs.Common.{◌≡◌, ℕ, ◌+◌, ◌<◌, List, [], ◌∷◌, ◌++◌, length, get_or, drop, refl, sym, ap, ◌∙◌, append_assoc}
use Rattle.std.specs.Prelude.{map, codes}
use Rattle.std.specs.List.{flat_map}
use Rattle.std.proofs.lemmas.List.{drop_more}
use Rattle.kc_script_bundle.specs.declared.object.Object.{Object}
use Rattle.kc_script_bundle.specs.declared.operation.Command.{Command}
use Rattle.kc_script_bundle.specs.declared.operation.Op.{Op}
use Rattle.kc_term.specs.Tree.{Tree, trees}
use Rattle.kc_script_bundle.specs.declared.operation.Command.TheVariants as command
use Rattle.kc_script.specs.Canonical.{canonical_line, block_lines, parts_lines, part_lines, command_lines, thread_lines, declaration_lines, line_text, text_of_lines}
use Rattle.kc_script.specs.Spells.{Line, spelled_atomic, end_line}
use Rattle.kc_script_bundle.specs.Script.{Names}
use Rattle.kc_script_verbs.specs.Canonical.{declaring}

pub texts_join : (xs ys : List Line) → text_of_lines (xs ++ ys) ≡ text_of_lines xs ++ text_of_lines ys
texts_join [] ys = refl
texts_join (x ∷ xs) ys = ap (λ (rest : List ℕ). (line_text x ++ 10 ∷ []) ++ rest) (texts_join xs ys) ∙ sym (append_assoc (line_text x ++ 10 ∷ []) (text_of_lines xs) (text_of_lines ys))

-- ---- declarations

abbrev pub declaration_text : List ℕ × Object → List ℕ
declaration_text entry = line_text (canonical_line [] (declaring entry.0 entry.1)) ++ 10 ∷ []

pub declarations_text : (names : Names) → text_of_lines (declaration_lines names) ≡ flat_map declaration_text names
declarations_text [] = refl
declarations_text (entry ∷ names) = ap (λ (rest : List ℕ). declaration_text entry ++ rest) (declarations_text names)

module _ (names : Names) where
  -- ---- parts of a block

  pub parts_next : (parts : List (Tree Op)) (i : ℕ) (d : Tree Op) → i < length parts → text_of_lines (parts_lines names (trees (drop i parts))) ≡ text_of_lines (part_lines names (get_or parts i d)) ++ text_of_lines (parts_lines names (trees (drop (i + 1) parts)))
  parts_next parts i d lt = ap (λ (ts : List (Tree Op)). text_of_lines (parts_lines names (trees ts))) (drop_more parts i d lt) ∙ texts_join (part_lines names (get_or parts i d)) (parts_lines names (trees (drop (i + 1) parts)))

  -- ---- commands

  commands_more : (c : Command) (cs : List Command) → command_lines names (c ∷ cs) ≡ command_lines names (c ∷ []) ++ command_lines names cs
  commands_more (command.One o) cs = refl
  commands_more (command.Block t) cs = ap (λ (rest : List Line). spelled_atomic ∷ rest) (sym (append_assoc (block_lines names t) (end_line ∷ []) (command_lines names cs)))

  pub commands_next : (cs : List Command) (i : ℕ) (d : Command) → i < length cs → text_of_lines (command_lines names (drop i cs)) ≡ text_of_lines (command_lines names (get_or cs i d ∷ [])) ++ text_of_lines (command_lines names (drop (i + 1) cs))
  commands_next cs i d lt =
      ap (λ (rest : List Command). text_of_lines (command_lines names rest)) (drop_more cs i d lt)
      ∙ ap text_of_lines (commands_more (get_or cs i d) (drop (i + 1) cs))
      ∙ texts_join (command_lines names (get_or cs i d ∷ [])) (command_lines names (drop (i + 1) cs))

  -- ---- threads

  abbrev pub thread_text : List Command → List ℕ
  thread_text commands = codes "thread\n" ++ text_of_lines (command_lines names commands)

  pub threads_text : (threads : List (List Command)) → text_of_lines (thread_lines names threads) ≡ flat_map thread_text threads
  threads_text [] = refl
  threads_text (commands ∷ threads) =
      ap (λ (rest : List ℕ). codes "thread\n" ++ rest) (texts_join (command_lines names commands) (thread_lines names threads) ∙ ap (λ (rest : List ℕ). text_of_lines (command_lines names commands) ++ rest) (threads_text threads))
      ∙ sym (append_assoc (codes "thread\n") (text_of_lines (command_lines names commands)) (flat_map thread_text threads))

pub flat_map_seen : {X Y : Type 0} (f : Y → List ℕ) (g : X → Y) (xs : List X) → flat_map f (map g xs) ≡ flat_map (λ x. f (g x)) xs
flat_map_seen f g [] = refl
flat_map_seen f g (x ∷ xs) = ap (λ (rest : List ℕ). f (g x) ++ rest) (flat_map_seen f g xs)
