use Rattle.std.proofs.Common.{◌≡◌, ◌≢◌, ◌<◌, ◌≤◌, ◌+◌, ◌%◌, ◌^◌, ◌∷◌, ◌∙◌, ℕ, List, [], ap, arith, inl, inr, refl, subst, sym}
use Rattle.kc_bank.proofs.ContentLemmas.{credit_means, means_then, then_on}
use Rattle.kc_bank.specs.Bank.{credit_meaning, credit_of, credited, find_of, next_of, paid, pay_meaning, credit_put}
use Rattle.kc_bank.specs.Content.{LieApart, LineAndAccounts, credit_value, pay_value}
use Rattle.kc_bank.specs.declared.bank.Credit.{Credit}
use Rattle.kc_bank.specs.declared.bank.PayNext.{PayNext}
use Rattle.kc_bank.specs.declared.bank.TheConstants.{DIVIDEND}
use Rattle.kc_hash.proofs.HashLaw.{hash_stays}
use Rattle.kc_hash.proofs.Chained.{same_cells}
use Rattle.kc_hash.specs.Meaning.{hash_cells_end as accounts_end, hash_begin, hash_meaning, hash_program}
use Rattle.kc_hash.specs.declared.HashOp.{HashOp}
use Rattle.kc_model.specs.declared.Reply.{Reply}
use Rattle.kc_model.specs.declared.Reply.TheVariants.{Bool, Cancelled, Empty, Full, Many, Stranded, Unit, Value}
use Rattle.kc_queue.proofs.QueueLaw.{queue_stays}
use Rattle.kc_queue.proofs.Standing.{queue_own}
use Rattle.kc_queue.proofs.Values.{queue_means}
use Rattle.kc_queue.specs.Meaning.{queue_cells_end as line_end, queue_begin, queue_meaning, queue_program, queue_value}
use Rattle.kc_term.proofs.Closed.{map_after-append}
use Rattle.kc_xt.proofs.Stay.{stays_outside}
use Rattle.kc_xt.specs.Meaning.{Meaning, Outcome, Run, Touch, map_after, replied, retried, then_meaning, then_run, too_large}
use Rattle.kc_xt.specs.Program.{replies}
use Rattle.kc_xt.specs.Structure.{IsOutside, MeansItsValue, comes_to}
use Rattle.kc_xt.specs.Structure.{Value as Comes}

-- a meaning leaves a location as it was
abbrev pub Leaves : ℕ → Meaning → Type 0
Leaves l mean = (n : ℕ) (m : ℕ → ℕ) (ks : List ℕ) → map_after m (mean n m ks).touches l ≡ m l

pub then_run_leaves : (o : Outcome) (ts : List Touch) (k : Reply → Run) (m : ℕ → ℕ) (l : ℕ) → map_after m ts l ≡ m l →
    ((a : Reply) → map_after (map_after m ts) (k a).touches l ≡ map_after m ts l) →
    map_after m (then_run o ts k).touches l ≡ m l
then_run_leaves (replied a) ts k m l first second =
    ap (λ u. u l) (map_after-append m ts (k a).touches) ∙ second a ∙ first
then_run_leaves retried ts k m l first second = first
then_run_leaves too_large ts k m l first second = first

pub then_leaves : (l : ℕ) (p : Meaning) (q : Reply → Meaning) → Leaves l p → ((a : Reply) → Leaves l (q a)) →
    Leaves l (then_meaning p q)
then_leaves l p q first second n m ks =
    then_run_leaves (p n m ks).outcome (p n m ks).touches _ m l (first n m ks) (λ a. second a n _ _)

pub account_leaves : (o : HashOp) → (l : ℕ) → IsOutside (hash_begin o) (accounts_end o.hash) l →
    Leaves l (hash_meaning o)
account_leaves o l outside n m ks =
    stays_outside (hash_begin o) (accounts_end o.hash) (hash_program o.hash o.act replies) (hash_stays o) n m ks l outside

pub credited_leaves : (c : Credit) → (l : ℕ) →
    IsOutside c.accounts.base.0 (accounts_end c.accounts) l → (a : Reply) → Leaves l (credited c a)
credited_leaves c l outside Unit = λ n m ks. refl
credited_leaves c l outside (Value b) = account_leaves (credit_put c ((b + DIVIDEND) % 2 ^ 32)) l outside
credited_leaves c l outside (Bool b) = λ n m ks. refl
credited_leaves c l outside Empty = λ n m ks. refl
credited_leaves c l outside Full = λ n m ks. refl
credited_leaves c l outside Stranded = λ n m ks. refl
credited_leaves c l outside Cancelled = λ n m ks. refl
credited_leaves c l outside (Many items) = λ n m ks. refl

pub credit_leaves : (c : Credit) → (l : ℕ) →
    IsOutside c.accounts.base.0 (accounts_end c.accounts) l → Leaves l (credit_meaning c)
credit_leaves c l outside =
    then_leaves l (hash_meaning (find_of c)) (credited c) (account_leaves (find_of c) l outside)
    (credited_leaves c l outside)

-- where it takes a front, the line is left without it; else it waits
abbrev pub paid_value : PayNext → List ℕ → List (ℕ × ℕ) → Reply → Comes (List ℕ × List (ℕ × ℕ))
paid_value p line accounts (Value account) =
    let credit = credit_value (credit_of p account) accounts in comes_to credit.outcome (line, credit.content)
paid_value p line accounts _ = comes_to (replied Empty) (line, accounts)

pub apart : (p : PayNext) → LieApart p → (l c : ℕ) → p.line.base.0 ≤ l → l < line_end p.line → p.accounts.base.0 ≤ c →
    c < accounts_end p.accounts → c ≢ l
apart p (inl h) l c a b d e = λ same. omega arith
apart p (inr h) l c a b d e = λ same. omega arith

pub paid_means : (p : PayNext) → LieApart p → (line : List ℕ) (accounts : List (ℕ × ℕ)) (a : Reply) →
    MeansItsValue (LineAndAccounts p) (paid p a) (line, accounts) (paid_value p line accounts a)
paid_means p far line accounts Unit = λ n m ks st h. (refl, st)
paid_means p far line accounts (Value v) = λ n m ks st h.
    let f : _ = credit_means (credit_of p v) accounts n m ks st.1 h in (
      f.0,
      (
        queue_own p.line m _ line
            (λ l from to. sym (credit_leaves (credit_of p v) l (λ c a b. apart p far l c from to a b) n m ks)) st.0,
        f.1,
      ),
    )
paid_means p far line accounts (Bool b) = λ n m ks st h. (refl, st)
paid_means p far line accounts Empty = λ n m ks st h. (refl, st)
paid_means p far line accounts Full = λ n m ks st h. (refl, st)
paid_means p far line accounts Stranded = λ n m ks st h. (refl, st)
paid_means p far line accounts Cancelled = λ n m ks st h. (refl, st)
paid_means p far line accounts (Many items) = λ n m ks st h. (refl, st)

-- what the line's operation comes to, beside the accounts
abbrev pub next_value : PayNext → List ℕ → List (ℕ × ℕ) → Comes (List ℕ × List (ℕ × ℕ))
next_value p line accounts =
    let v = queue_value p.line (next_of p).act line in comes_to v.outcome (v.content, accounts)

pub next_means : (p : PayNext) → LieApart p → (line : List ℕ) (accounts : List (ℕ × ℕ)) →
    MeansItsValue (LineAndAccounts p) (queue_meaning (next_of p)) (line, accounts) (next_value p line accounts)
next_means p far line accounts n m ks st h =
    let f : _ = queue_means (next_of p) line n m ks st.0 h in (
      f.0,
      (
        f.1,
        same_cells p.accounts m accounts st.1 _
            (λ l from to. sym (stays_outside (queue_begin (next_of p)) (line_end p.line) (queue_program p.line (next_of p).act replies)
            (queue_stays (next_of p)) n m ks l (λ c a b e. apart p far c l a b from to (sym e)))),
      ),
    )

pub pay_comes : (p : PayNext) (line : List ℕ) (accounts : List (ℕ × ℕ)) →
    then_on (next_value p line accounts).outcome (next_value p line accounts).content
    (paid_value p (next_value p line accounts).content.0 accounts) ≡ pay_value p line accounts
pay_comes p [] accounts = refl
pay_comes p (x ∷ line) accounts = refl

-- a payout credits the front of the line, which the line is then without, and waits where there is none
pub pay_means : (p : PayNext) → LieApart p → (line : List ℕ) (accounts : List (ℕ × ℕ)) →
    MeansItsValue (LineAndAccounts p) (pay_meaning p) (line, accounts) (pay_value p line accounts)
pay_means p far line accounts =
    subst (λ v. MeansItsValue (LineAndAccounts p) (pay_meaning p) (line, accounts) v) (pay_comes p line accounts)
    (means_then (LineAndAccounts p) (queue_meaning (next_of p)) (paid p) (line, accounts) (next_value p line accounts)
    (paid_value p (next_value p line accounts).content.0 accounts) (next_means p far line accounts)
    (λ a e. paid_means p far (next_value p line accounts).content.0 accounts a))
