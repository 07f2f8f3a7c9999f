-- A tree as a list of tokens that gives it back, which the type of terms asks for.
use Rattle.std.specs.Prelude.{◌≡◌, ℕ, zero, suc, List, [], ◌∷◌, ◌++◌, Option, Some, None, refl}
use Rattle.std.proofs.Common.{ap, ◌∙◌}
use Rattle.std.specs.Coded.{Coded, code_by, coded_list, coded×, coded_ℕ, coded_option}
use Rattle.kc_term.specs.Tree.{Tree, Trees, op, seq, first, none, more}

pub data Item (O : Type 0) : Type 0 where
  tree : Tree O → Item O
  forest : Trees O → Item O

abbrev Token : Type 0 → Type 0
Token O = Option O × ℕ

-- what a token makes of the items so far
abbrev step : {O : Type 0} → Option O → ℕ → List (Item O) → List (Item O)
step (Some o) n items = tree (op o) ∷ items
step None zero items = forest none ∷ items
step None (suc zero) (forest ts ∷ items) = tree (seq ts) ∷ items
step None (suc zero) items = items
step None (suc (suc zero)) (tree b ∷ tree a ∷ items) = tree (first a b) ∷ items
step None (suc (suc zero)) items = items
step None (suc (suc (suc k))) (forest ts ∷ tree t ∷ items) = forest (more t ts) ∷ items
step None (suc (suc (suc k))) items = items

abbrev run_tokens : {O : Type 0} → List (Token O) → List (Item O) → List (Item O)
run_tokens [] items = items
run_tokens (token ∷ tokens) items = run_tokens tokens (step token.0 token.1 items)

abbrev mutual
  tokens : {O : Type 0} → Tree O → List (Token O)
  tokens (op o) = (Some o, 0) ∷ []
  tokens (seq ts) = all_tokens ts ++ (None, 1) ∷ []
  tokens (first a b) = tokens a ++ (tokens b ++ (None, 2) ∷ [])

  all_tokens : {O : Type 0} → Trees O → List (Token O)
  all_tokens none = (None, 0) ∷ []
  all_tokens (more t ts) = tokens t ++ (all_tokens ts ++ (None, 3) ∷ [])

pub run-append : {O : Type 0} (xs ys : List (Token O)) (items : List (Item O)) → run_tokens (xs ++ ys) items ≡ run_tokens ys (run_tokens xs items)
run-append [] ys items = refl
run-append (x ∷ xs) ys items = run-append xs ys (step x.0 x.1 items)

mutual
  pub run-tokens : {O : Type 0} (t : Tree O) (items : List (Item O)) → run_tokens (tokens t) items ≡ tree t ∷ items
  run-tokens (op o) items = refl
  run-tokens (seq ts) items = run-append (all_tokens ts) ((None, 1) ∷ []) items ∙ ap (run_tokens ((None, 1) ∷ [])) (run-all_tokens ts items)
  run-tokens (first a b) items =
      run-append (tokens a) (tokens b ++ (None, 2) ∷ []) items ∙ ap (run_tokens (tokens b ++ (None, 2) ∷ [])) (run-tokens a items)
      ∙ run-append (tokens b) ((None, 2) ∷ []) (tree a ∷ items) ∙ ap (run_tokens ((None, 2) ∷ [])) (run-tokens b (tree a ∷ items))

  pub run-all_tokens : {O : Type 0} (ts : Trees O) (items : List (Item O)) → run_tokens (all_tokens ts) items ≡ forest ts ∷ items
  run-all_tokens none items = refl
  run-all_tokens (more t ts) items =
      run-append (tokens t) (all_tokens ts ++ (None, 3) ∷ []) items ∙ ap (run_tokens (all_tokens ts ++ (None, 3) ∷ [])) (run-tokens t items)
      ∙ run-append (all_tokens ts) ((None, 3) ∷ []) (tree t ∷ items) ∙ ap (run_tokens ((None, 3) ∷ [])) (run-all_tokens ts (tree t ∷ items))

abbrev top : {O : Type 0} → List (Item O) → Tree O
top (tree t ∷ items) = t
top _ = seq none

abbrev pub tree_code : {O : Type 0} → Coded O → Coded (Tree O)
tree_code {O} code = code_by (List (Token O)) (coded_list (coded× (coded_option code) coded_ℕ)) tokens (λ ts. top (run_tokens ts [])) (λ t. ap top (run-tokens t []))
