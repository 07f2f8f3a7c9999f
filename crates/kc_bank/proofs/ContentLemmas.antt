use Rattle.std.proofs.Common.{◌≡◌, ◌≢◌, ◌++◌, ◌+◌, ◌%◌, ◌^◌, ℕ, List, Option, Some, None, ap, refl, subst, sym}
use Rattle.kc_bank.specs.Bank.{credit_meaning, credited, find_of, credit_put}
use Rattle.kc_bank.specs.Content.{credit_found, credit_value}
use Rattle.kc_bank.specs.declared.bank.Credit.{Credit}
use Rattle.kc_bank.specs.declared.bank.TheConstants.{DIVIDEND}
use Rattle.kc_hash.proofs.Values.{hash_means}
use Rattle.kc_hash.specs.Content.{HashStandsFor, hash_value, put_value, value_at}
use Rattle.kc_hash.specs.Meaning.{hash_meaning}
use Rattle.kc_model.specs.declared.Reply.{Reply}
use Rattle.kc_model.specs.declared.Reply.TheVariants.{Bool, Cancelled, Empty, Full, Many, Stranded, Unit, Value}
use Rattle.kc_term.proofs.Closed.{map_after-append}
use Rattle.kc_xt.specs.Meaning.{Meaning, Outcome, Run, Touch, map_after, replied, retried, then_meaning, then_run, too_large}
use Rattle.kc_xt.specs.Structure.{MeansItsValue, Standing, comes_to}
use Rattle.kc_xt.specs.Structure.{Value as Comes}

-- what one behind the other comes to, where the first ended so on this content
abbrev pub then_on : {C : Type 0} → Outcome → C → (Reply → Comes C) → Comes C
then_on (replied a) c w = w a
then_on retried c w = comes_to retried c
then_on too_large c w = comes_to too_large c

pub then_step : {C : Type 0} (stands : Standing C) (o : Outcome) (ts : List Touch) (k : Reply → Run) (v : Comes C)
    (w : Reply → Comes C) (m : ℕ → ℕ) →
    (o ≢ too_large → (o ≡ v.outcome) × stands (map_after m ts) v.content) →
    ((a : Reply) → v.outcome ≡ replied a → stands (map_after m ts) v.content → (k a).outcome ≢ too_large →
    ((k a).outcome ≡ (w a).outcome) × stands (map_after (map_after m ts) (k a).touches) (w a).content) →
    (then_run o ts k).outcome ≢ too_large →
    ((then_run o ts k).outcome ≡ (then_on v.outcome v.content w).outcome) ×
    stands (map_after m (then_run o ts k).touches) (then_on v.outcome v.content w).content
then_step stands (replied a) ts k v w m first second fits =
    let f : (replied a ≡ v.outcome) × stands (map_after m ts) v.content = first (λ e. cc) in
    let s : ((k a).outcome ≡ (w a).outcome) × stands (map_after (map_after m ts) (k a).touches) (w a).content =
    second a (sym f.0) f.1 fits in
    subst (λ x. ((k a).outcome ≡ (then_on x v.content w).outcome) ×
    stands (map_after m (ts ++ (k a).touches)) (then_on x v.content w).content) f.0
    (s.0, subst (λ u. stands u (w a).content) (sym (map_after-append m ts (k a).touches)) s.1)
then_step stands retried ts k v w m first second fits =
    let f : (retried ≡ v.outcome) × stands (map_after m ts) v.content = first (λ e. cc) in
    subst (λ x. (retried ≡ (then_on x v.content w).outcome) × stands (map_after m ts) (then_on x v.content w).content)
    f.0 (refl, f.1)
then_step stands too_large ts k v w m first second fits = absurd (fits refl)

-- one behind the other comes to what the second comes to on what the first left
pub means_then : {C : Type 0} (stands : Standing C) (p : Meaning) (q : Reply → Meaning) (c : C) (v : Comes C)
    (w : Reply → Comes C) → MeansItsValue stands p c v →
    ((a : Reply) → v.outcome ≡ replied a → MeansItsValue stands (q a) v.content (w a)) →
    MeansItsValue stands (then_meaning p q) c (then_on v.outcome v.content w)
means_then stands p q c v w first second n m ks st fits =
    then_step stands (p n m ks).outcome (p n m ks).touches _ v w m (λ h. first n m ks st h)
    (λ a e s h. second a e n _ _ s h) fits

abbrev pub credited_value : Credit → List (ℕ × ℕ) → Reply → Comes (List (ℕ × ℕ))
credited_value c pairs (Value b) =
    hash_value c.accounts (credit_put c ((b + DIVIDEND) % 2 ^ 32)).act pairs
credited_value c pairs _ = comes_to (replied Empty) pairs

pub credited_means : (c : Credit) (pairs : List (ℕ × ℕ)) (a : Reply) →
    MeansItsValue (HashStandsFor c.accounts) (credited c a) pairs (credited_value c pairs a)
credited_means c pairs Unit = λ n m ks st h. (refl, st)
credited_means c pairs (Value b) = hash_means (credit_put c ((b + DIVIDEND) % 2 ^ 32)) pairs
credited_means c pairs (Bool b) = λ n m ks st h. (refl, st)
credited_means c pairs Empty = λ n m ks st h. (refl, st)
credited_means c pairs Full = λ n m ks st h. (refl, st)
credited_means c pairs Stranded = λ n m ks st h. (refl, st)
credited_means c pairs Cancelled = λ n m ks st h. (refl, st)
credited_means c pairs (Many items) = λ n m ks st h. (refl, st)

pub credit_comes : (c : Credit) (pairs : List (ℕ × ℕ)) (found : Option ℕ) → value_at pairs c.account ≡ found →
    (let v : Comes (List (ℕ × ℕ)) = hash_value c.accounts (find_of c).act pairs in
    then_on v.outcome v.content (credited_value c pairs)) ≡ credit_found c pairs found
credit_comes c pairs None e = rw e refl
credit_comes c pairs (Some b) e =
    rw e (ap (λ u. put_value c.accounts.cap c.account ((b + DIVIDEND) % 2 ^ 32) pairs u) e)

-- on cells that stand for accounts, a credit adds to its account's balance, or replies Empty
pub credit_means : (c : Credit) (pairs : List (ℕ × ℕ)) →
    MeansItsValue (HashStandsFor c.accounts) (credit_meaning c) pairs (credit_value c pairs)
credit_means c pairs =
    subst (λ v. MeansItsValue (HashStandsFor c.accounts) (credit_meaning c) pairs v)
    (credit_comes c pairs (value_at pairs c.account) refl)
    (means_then (HashStandsFor c.accounts) (hash_meaning (find_of c)) (credited c) pairs
    (hash_value c.accounts (find_of c).act pairs) (credited_value c pairs) (hash_means (find_of c) pairs)
    (λ a e. credited_means c pairs a))
