-- A text fails one test first, at one line, and where it is a run's it fails none.
use Rattle.std.proofs.Common.{◌≡◌, ◌≤◌, ℕ, List, [], length, refl, sym, subst, arith, slice_index_or}
use Rattle.std.specs.Prelude.{IfErr, Result, Ok, Err}
use Rattle.kc_script.proofs.Spelled.{spelled_threads, spelled_threads_few, thread_at}
use Rattle.kc_script.specs.Spells.{Spells}
use Rattle.kc_script_bundle.specs.Script.{Script}
use Rattle.kc_script_small.proofs.Runs.{answers_fit}
use Rattle.kc_script_small.specs.Small.{AllAnswersFit}
use Rattle.kc_xt.specs.Meaning.{values}
use Rattle.kc_check.proofs.First.{later_one}
use Rattle.kc_check.proofs.Formed.{formed_joined, formed_shaped, lines_of, run_held, run_replies}
use Rattle.kc_check.proofs.Once.{misses_none, misses_once, shapes_of_lines}
use Rattle.kc_check.proofs.Opened.{objects_few, said_of, spelled_names}
use Rattle.kc_check.proofs.Printed.{held_are_lines, laid_of, later_not_legal, legal_spelled, replies_are_lines}
use Rattle.kc_check.proofs.Shown.{parts_of, run_count, run_formed, run_laid}
use Rattle.kc_check.proofs.Unique.{parts_one}
use Rattle.kc_check.specs.Faults.{CheckFails, FailsFor, FailsIn, FailsLater, IsFault, IsLegalText}
use Rattle.kc_check.specs.Forms.{IsFormed, IsMisformed, shapes}
use Rattle.kc_check.specs.Parts.{Parts}
use Rattle.kc_check.specs.Reads.{HaveNames}
use Rattle.kc_check.specs.declared.error.CheckError.{CheckError}
use Rattle.kc_check.specs.declared.error.CheckError.TheVariants as error
use Rattle.kc_check.specs.declared.error.CheckWhy.{CheckWhy}
use Rattle.kc_check.specs.declared.error.CheckWhy.TheVariants as why

module _ (s : Script) (few : length s.threads ≤ 16) (short : (t : ℕ) → length (slice_index_or s.threads t []) ≤ 4096) (names : HaveNames s.objects) where
  -- a text that has parts misses no line
  formed_well : (text : List ℕ) (parts : Parts) (line : ℕ) → IsFormed s text parts → IsMisformed s text line → ⊥
  formed_well text parts line formed missing = misses_none s.threads (shapes s) (lines_of s text parts formed) text 1 line (shapes_of_lines s few short names) (formed_shaped s text parts formed) (formed_joined s text parts formed) missing

  -- it has its parts in one way
  parts_are_one : (text : List ℕ) (a b : Parts) → IsFormed s text a → IsFormed s text b → a ≡ b
  parts_are_one text a b h k = parts_one s text a b (record { threads_few = omega (arith, few); commands_few = λ u. (let le = short u in omega (arith, le)) }) (laid_of s few short names text a h) (laid_of s few short names text b k)

  later_once : (text : List ℕ) (line again : ℕ) (w x : CheckWhy) → length s.objects ≤ 65536 → FailsLater s text line w → FailsLater s text again x → (line ≡ again) × (w ≡ x)
  later_once text line again w x some h k =
      let same : h.parts ≡ k.parts = parts_are_one text h.parts k.parts h.formed k.formed in
      later_one s h.parts (said_of s text h.parts some h.formed) line again w x h.fails (subst (λ (parts : Parts). FailsIn s parts again x) (sym same) k.fails)

  form_once : (text : List ℕ) (line again : ℕ) → IsMisformed s text line → IsMisformed s text again → (line ≡ again) × (why.Form ≡ why.Form)
  form_once text line again h k = (misses_once s.threads (shapes s) text 1 line again (shapes_of_lines s few short names) h k, refl)

  -- behind a later test, any other
  later_or : (text : List ℕ) (line again : ℕ) (w x : CheckWhy) → length s.objects ≤ 65536 → FailsLater s text line w → CheckFails s text again x → (line ≡ again) × (w ≡ x)
  later_or text line again w why.Form some h k = absurd (formed_well text h.parts again h.formed k)
  later_or text line again w why.Turn some h k = later_once text line again w why.Turn some h k
  later_or text line again w why.Waits some h k = later_once text line again w why.Waits some h k
  later_or text line again w why.Reply some h k = later_once text line again w why.Reply some h k
  later_or text line again w why.Order some h k = later_once text line again w why.Order some h k
  later_or text line again w why.State some h k = later_once text line again w why.State some h k

  fails_once : (text : List ℕ) (line again : ℕ) (w x : CheckWhy) → length s.objects ≤ 65536 → CheckFails s text line w → CheckFails s text again x → (line ≡ again) × (w ≡ x)
  fails_once text line again why.Form why.Form some h k = form_once text line again h k
  fails_once text line again why.Form why.Turn some h k = absurd (formed_well text k.parts line k.formed h)
  fails_once text line again why.Form why.Waits some h k = absurd (formed_well text k.parts line k.formed h)
  fails_once text line again why.Form why.Reply some h k = absurd (formed_well text k.parts line k.formed h)
  fails_once text line again why.Form why.Order some h k = absurd (formed_well text k.parts line k.formed h)
  fails_once text line again why.Form why.State some h k = absurd (formed_well text k.parts line k.formed h)
  fails_once text line again why.Turn x some h k = later_or text line again why.Turn x some h k
  fails_once text line again why.Waits x some h k = later_or text line again why.Waits x some h k
  fails_once text line again why.Reply x some h k = later_or text line again why.Reply x some h k
  fails_once text line again why.Order x some h k = later_or text line again why.Order x some h k
  fails_once text line again why.State x some h k = later_or text line again why.State x some h k

  -- no run's text is misformed
  legal_formed : (text : List ℕ) (legal : IsLegalText s text) → AllAnswersFit legal.records → IsFormed s text (parts_of s legal.records legal.is.order legal.is.last legal.is.run)
  legal_formed text legal fit =
      let t = legal.is in
      let laid = run_laid s legal.records t.order t.last t.run text (run_count s legal.records t.order t.last t.run) (replies_are_lines 1 s.threads legal.records t.run.threads) (held_are_lines s.objects (values t.last) names) (legal_spelled s text legal) in
      run_formed s legal.records t.order t.last t.run text laid (run_replies 1 s.threads legal.records t.run.threads fit) (run_held s.objects (values t.last))

  none_fails : (text : List ℕ) (line : ℕ) (w : CheckWhy) (legal : IsLegalText s text) → AllAnswersFit legal.records → CheckFails s text line w → ⊥
  none_fails text line why.Form legal fit h = formed_well text (parts_of s legal.records legal.is.order legal.is.last legal.is.run) line (legal_formed text legal fit) h
  none_fails text line why.Turn legal fit h = later_not_legal s few short names text h.parts line why.Turn h.formed h.fails legal
  none_fails text line why.Waits legal fit h = later_not_legal s few short names text h.parts line why.Waits h.formed h.fails legal
  none_fails text line why.Reply legal fit h = later_not_legal s few short names text h.parts line why.Reply h.formed h.fails legal
  none_fails text line why.Order legal fit h = later_not_legal s few short names text h.parts line why.Order h.formed h.fails legal
  none_fails text line why.State legal fit h = later_not_legal s few short names text h.parts line why.State h.formed h.fails legal

-- ---- of a script that bytes spell

module _ {bytes : List ℕ} {s : Script} (spells : Spells bytes s) where
  short : (t : ℕ) → length (slice_index_or s.threads t []) ≤ 4096
  short t = (thread_at s.objects s.threads t (spelled_threads spells)).0

  pub faults_one : (text : List ℕ) (line again : ℕ) (w x : CheckWhy) → CheckFails s text line w → CheckFails s text again x → (line ≡ again) × (w ≡ x)
  faults_one text line again w x h k = fails_once s (spelled_threads_few spells) short (spelled_names spells) text line again w x (objects_few spells) h k

  pub runs_fail_none : (text : List ℕ) (line : ℕ) (w : CheckWhy) → IsLegalText s text → CheckFails s text line w → ⊥
  runs_fail_none text line w legal h = none_fails s (spelled_threads_few spells) short (spelled_names spells) text line w legal (answers_fit legal.records legal.is.order legal.is.last spells legal.is.run) h

  refuses : (text : List ℕ) (e : CheckError) → FailsFor s text e → IsFault e → IsLegalText s text → ⊥
  refuses text (error.Fault line w) h fault legal = runs_fail_none text line w legal h
  refuses text error.NoMemory h fault legal = fault

  pub refused : {A : Type 0} (text : List ℕ) (r : Result A CheckError) → IfErr r (FailsFor s text) → IfErr r (λ e. IsFault e → IsLegalText s text → ⊥)
  refused text (Ok u) h = tt
  refused text (Err e) h = refuses text e h
