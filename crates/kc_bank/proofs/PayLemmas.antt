use Rattle.std.proofs.Common.{◌≡◌, ◌≤◌, ℕ, List, Ok, Result, refl, subst}
use Rattle.kc_bank.specs.Bank.{credited, paid}
use Rattle.kc_bank.specs.declared.bank.Credit.{Credit}
use Rattle.kc_bank.specs.declared.bank.PayNext.{PayNext}
use Rattle.kc_model.specs.declared.Reply.{Reply}
use Rattle.kc_model.specs.declared.Reply.TheVariants.{Bool, Cancelled, Empty, Full, Many, Stranded, Unit, Value}
use Rattle.kc_xt.proofs.Chain.{does_reply}
use Rattle.kc_xt.proofs.Composed.{obeys_wider}
use Rattle.kc_xt.proofs.Laws.{law_of}
use Rattle.kc_xt.specs.Law.{Obeys}
use Rattle.kc_xt.specs.Log.{Log}
use Rattle.kc_xt.specs.Meaning.{Meaning, Outcome, Run, Touch, replied, retried, then_meaning, then_run, too_large}
use Rattle.kc_xt.specs.Peeks.{Gives}
use Rattle.kc_xt.specs.Program.{meaning, replies}
use Rattle.kc_xt.specs.Single.{RepliesOne}
use Rattle.kc_xt.specs.Structure.{RepliesOneItem}
use Rattle.kc_xt.specs.declared.Stop.{Stop}

-- a transaction that only replies
pub obeys_reply : {P : Type 0} {gives : Gives P} (a : Reply) (bound : ℕ) (x : Log P) →
    Obeys gives (meaning (replies a)) bound x (Ok a) x
obeys_reply {gives = gives} a bound x = law_of gives (λ k. k a) bound tt (λ e. cc) (Ok a) does_reply

-- an operation that was made as meant obeys what was meant, below any greater number
pub as_meant : {P O : Type 0} {gives : Gives P} (mean : O → Meaning) (end : O → ℕ) (bound : ℕ) {o w : O} {x y : Log P}
    {r : Result Reply Stop} → o ≡ w → end w ≤ bound → Obeys gives (mean o) (end o) x r y → Obeys gives (mean w) bound x r y
as_meant {gives = gives} mean end bound {w = w} {x = x} {y = y} {r = r} e within h =
    obeys_wider (end w) bound within (mean w) x r y (subst (λ v. Obeys gives (mean v) (end v) x r y) e h)

-- what replied no balance is credited nothing
pub credited_other : (c : Credit) (a : Reply) → ((v : ℕ) → a ≡ Value v → ⊥) → credited c a ≡ meaning (replies Empty)
credited_other c Unit h = refl
credited_other c (Value v) h = absurd (h v refl)
credited_other c (Bool b) h = refl
credited_other c Empty h = refl
credited_other c Full h = refl
credited_other c Stranded h = refl
credited_other c Cancelled h = refl
credited_other c (Many items) h = refl

pub paid_other : (p : PayNext) (a : Reply) → ((v : ℕ) → a ≡ Value v → ⊥) → paid p a ≡ meaning (replies Empty)
paid_other p Unit h = refl
paid_other p (Value v) h = absurd (h v refl)
paid_other p (Bool b) h = refl
paid_other p Empty h = refl
paid_other p Full h = refl
paid_other p Stranded h = refl
paid_other p Cancelled h = refl
paid_other p (Many items) h = refl

-- the second's reply is the whole's
pub then_run_one : (o : Outcome) (ts : List Touch) (k : Reply → Run) → ((a : Reply) → RepliesOne (k a).outcome) →
    RepliesOne (then_run o ts k).outcome
then_run_one (replied a) ts k one = one a
then_run_one retried ts k one = tt
then_run_one too_large ts k one = tt

pub then_one : (p : Meaning) (q : Reply → Meaning) → ((a : Reply) → RepliesOneItem (q a)) →
    RepliesOneItem (then_meaning p q)
then_one p q one n m ks = then_run_one (p n m ks).outcome (p n m ks).touches _ (λ a. one a n _ _)
