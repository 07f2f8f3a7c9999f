-- A view of all accounts leaves them, and replies what they have together.
use Rattle.std.proofs.Common.{◌≡◌, ℕ, zero, suc, ◌+◌, ◌*◌, ◌<◌, ◌^◌, ◌⊎◌, inl, inr, List, [], refl, sym, ap, subst, ◌∙◌, arith}
use Rattle.kc_cells.proofs.Sums.{sum_more, sums_plain}
use Rattle.kc_cells.specs.Accumulator.{acc_meaning, acc_program, cells_sum}
use Rattle.kc_cells.specs.declared.accumulator.AccAct.TheVariants.{Total}
use Rattle.kc_cells.specs.declared.accumulator.Accumulator.{Accumulator}
use Rattle.kc_keep.specs.Keeping.{CommitsReply, SawReply, ViewsReply, IsKeptBy, SaysWhere}
use Rattle.kc_model.specs.Store.{Store}
use Rattle.kc_model.specs.declared.footprint.Entry.{Entry}
use Rattle.kc_model.specs.declared.footprint.TheConstants.{MOST}
use Rattle.kc_model.specs.declared.reply.Reply.{Reply}
use Rattle.kc_model.specs.declared.reply.Reply.TheVariants as reply
use Rattle.kc_store.specs.Views.{CallerView}
use Rattle.kc_sums.proofs.Sums.{fits, small, transfer_is_kept}
use Rattle.kc_sums.specs.Sums.{HasTotal, IsOfBank, IsReading, accounts_sum}
use Rattle.kc_sums.specs.Views.{SawTotal}
use Rattle.kc_sums.specs.declared.bank.Bank.{Bank}
use Rattle.kc_xt.proofs.PlainRuns.{plain-meaning}
use Rattle.kc_xt.specs.Meaning.{Meaning, lesser, limited, map_after, replied, values}
use Rattle.kc_xt.specs.Program.{Plain, replies, wrapped}

sum_is_cells : (n : ℕ) (m : ℕ → ℕ) → accounts_sum n m ≡ cells_sum m 0 n
sum_is_cells zero m = refl
sum_is_cells (suc n) m =
    let next : suc n ≡ n + 1 = omega arith in
    let ih = sum_is_cells n m in
    let more = sum_more m 0 n n (omega arith) in
    let same = ap (cells_sum m 0) next in
    omega (arith, ih, more, same)

same_reply : (a b : Reply) → replied a ≡ replied b → a ≡ b
same_reply a b e = cc

same_number : (n k : ℕ) → reply.Value n ≡ reply.Value k → n ≡ k
same_number n k e = cc

abbrev pub all_read : Accumulator → Meaning
all_read x = acc_meaning (record { acc = x; act = Total })

read_comes : (x : Accumulator) (n : ℕ) (m : ℕ → ℕ) (ks : List ℕ) (a : Reply) → (all_read x n m ks).outcome ≡ replied a → (a ≡ reply.Value (wrapped (cells_sum m x.base.0 x.cells))) × (map_after m (all_read x n m ks).touches ≡ m)
read_comes x n m ks a e =
    let p = plain-meaning (acc_program x Total replies) n m ks (fits _ a e) in
    let q = sums_plain m x.cells x.base.0 0 refl replies in
    let z : 0 + cells_sum m x.base.0 x.cells ≡ cells_sum m x.base.0 x.cells = omega arith in
    let said = same_reply _ _ (sym e ∙ p.0 ∙ ap (λ (w : Plain). w.outcome) q) in
    (said ∙ ap (λ s. reply.Value (wrapped s)) z, p.1 ∙ ap (λ (w : Plain). w.map) q)

reading_is_kept : (b : Bank) (m : Meaning) → IsReading b m → IsKeptBy (HasTotal b) m
reading_is_kept b p r = subst (IsKeptBy (HasTotal b)) (sym r.is) (λ n m ks a h e. subst (HasTotal b) (sym (read_comes r.all n m ks a e).1) h)

pub each_keeps : (b : Bank) (m : Meaning) → IsOfBank b m → IsKeptBy (HasTotal b) m
each_keeps b m (inl t) = transfer_is_kept b m t
each_keeps b m (inr r) = reading_is_kept b m r

-- what it replied, where they have what they opened with
says_exact : (b : Bank) (sum : ℕ) (c d : CallerView) (s : Store) (es known : List Entry) (saw : SawTotal b sum c d) → SaysWhere (HasTotal b) s es known (limited MOST saw.meaning) (reply.Value sum) → sum ≡ b.accounts * b.each
says_exact b sum c d s es known saw at =
    let r = saw.reading in
    let t = at.seen.store in
    let h = at.seen.there in
    let read = read_comes r.all (lesser MOST MOST) (values t) [] (reply.Value sum) (subst (λ (q : Meaning). (q (lesser MOST MOST) (values t) []).outcome ≡ replied (reply.Value sum)) r.is at.says) in
    let whole : cells_sum (values t) r.all.base.0 r.all.cells ≡ b.accounts * b.each =
    ap (λ l. cells_sum (values t) l r.all.cells) r.base ∙ ap (cells_sum (values t) 0) r.cells ∙ sym (sum_is_cells b.accounts (values t)) ∙ h.1 in
    same_number _ _ read.0 ∙ ap wrapped whole ∙ small (b.accounts * b.each) h.0

pub view_exact : (b : Bank) (sum : ℕ) (c d : CallerView) (s : Store) (es : List Entry) (saw : SawTotal b sum c d) → (SawReply (limited MOST saw.meaning) (reply.Value sum) c d → SaysWhere (HasTotal b) s es c.known (limited MOST saw.meaning) (reply.Value sum)) → (CommitsReply (limited MOST saw.meaning) (reply.Value sum) c d → SaysWhere (HasTotal b) s es c.own (limited MOST saw.meaning) (reply.Value sum)) → sum ≡ b.accounts * b.each
view_exact b sum c d s es saw views commits = go saw.saw
  where
    go : ViewsReply (limited MOST saw.meaning) (reply.Value sum) c d → sum ≡ b.accounts * b.each
    go (inl seen) = says_exact b sum c d s es c.known saw (views seen)
    go (inr said) = says_exact b sum c d s es c.own saw (commits said)
