-- The shares of threads, and the passes with them.
use Rattle.std.proofs.Common.{◌≡◌, ℕ, suc, ◌+◌, ◌≤◌, ◌<◌, List, [], ◌∷◌, ◌++◌, length, take, get_or, refl, sym, ap, ◌∙◌, subst, arith}
use Rattle.std.proofs.lemmas.List.{take_more, map-append}
use Rattle.std.proofs.lemmas.List.Sums.{sum_by-le, sum-map}
use Rattle.std.specs.Prelude.{All, sum}
use Rattle.std.specs.Global.{Vec}
use Rattle.kc_locked.specs.Passes.{LockedStoreView, PassView, passes_of}
use Rattle.kc_run.specs.Jobs.{AllMayRun}
use Rattle.kc_run.specs.Locked.{AllDealt}
use Rattle.kc_run.specs.Shares.{shares_of}
use Rattle.kc_script_bundle.specs.declared.operation.Command.{Command}

pub shares_more : (threads : List (Vec Command)) (i n : ℕ) (v : Vec Command) (shares shares' : List ℕ) → i < length threads → v ≡ get_or threads i v → n ≡ length v.items + 1 → shares ≡ shares_of (take i threads) → shares' ≡ shares ++ n ∷ [] → shares' ≡ shares_of (take (i + 1) threads)
shares_more threads i n v shares shares' lt is count was pushed =
    let more : take (i + 1) threads ≡ take i threads ++ v ∷ [] = take_more threads i v lt ∙ ap (λ (x : Vec Command). take i threads ++ x ∷ []) (sym is) in
    pushed ∙ ap (λ (l : List ℕ). l ++ n ∷ []) was ∙ ap (λ (m : ℕ). shares_of (take i threads) ++ m ∷ []) count ∙ sym (ap shares_of more ∙ map-append (λ (w : Vec Command). length w.items + 1) (take i threads) (v ∷ []))

pub shares_fit : (threads : List (Vec Command)) (shares : List ℕ) → shares ≡ shares_of threads → length threads ≤ 64 → All (λ (v : Vec Command). length v.items ≤ 4096) threads → sum shares ≤ 1048576
shares_fit threads shares is few each =
    let f : Vec Command → ℕ = λ v. length v.items + 1 in
    let total = sum_by-le f 4097 threads (λ i d lt. let l = each i d lt in omega arith) in
    let all = ap sum is ∙ sum-map f threads in omega (arith, total, all, few)

deals : (store : LockedStoreView) (k j : ℕ) → j ≡ k → (threads : List (Vec Command))
    → AllMayRun (λ (s : LockedStoreView) (p : PassView). p.table ≡ s.table) (λ (p : PassView). p.caller) (λ (p : PassView). p.left) (λ (p : PassView). p.own) store k threads (passes_of store.table j (shares_of threads))
deals store k j e [] = tt
deals store k j e (v ∷ vs) = (record { belongs_to = refl; number_is = e; share = omega arith; fresh = refl }, deals store (suc k) (j + 1) (omega arith) vs)

pub all_dealt : (store : LockedStoreView) (threads : List (Vec Command)) (shares : List ℕ) (passes : List PassView) → shares ≡ shares_of threads → passes ≡ passes_of store.table 0 shares → AllDealt store threads passes
all_dealt store threads shares passes is dealt = subst (AllDealt store threads) (sym (dealt ∙ ap (passes_of store.table 0) is)) (deals store 0 0 refl threads)
