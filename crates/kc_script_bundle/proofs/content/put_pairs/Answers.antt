use Rattle.std.proofs.Common.{◌≡◌, ◌∙◌, ℕ, Some, None, refl, sym, rules}
use Rattle.kc_model.proofs.Pens.{owes_all}
use Rattle.kc_script_bundle.proofs.Listed.{pair_next, pairs_last, pair_falls}
use Rattle.kc_script_bundle.specs.State.{pair_text}
use Rattle.kc_script_bundle.proofs.content.put_pairs.Goals as goal

pub loop-key-init : goal.loop-key-init
loop-key-init g c = record { same_sink = refl; owes = owes_all _ _ }

pub loop-key-preserved : goal.loop-key-preserved
loop-key-preserved g c =
    let p : ℕ × ℕ = (c.in-Some.key, c.in-Some.value) in
    let got : c.next.result ≡ Some p = search rules in
    record {
      same_sink = c.put_pair.ensures.same_sink ∙ c.loop-key.invariant.same_sink;
      owes = pair_next pair_text c.loop-key.pairs c.next.new.self p (sym got ∙ c.next.ensures.first) c.next.ensures.rest c.put_pair.ensures.asks c.loop-key.invariant.owes;
    }

pub loop-key-smaller : goal.loop-key-smaller
loop-key-smaller g c =
    let p : ℕ × ℕ = (c.in-Some.key, c.in-Some.value) in
    let got : c.next.result ≡ Some p = search rules in
    pair_falls c.loop-key.pairs c.next.new.self p (sym got ∙ c.next.ensures.first) c.next.ensures.rest

pub returns : goal.returns
returns g c =
    let none : c.next.result ≡ None = search rules in
    record { same_sink = c.loop-key.invariant.same_sink; asks = pairs_last pair_text c.loop-key.pairs (sym none ∙ c.next.ensures.first) c.loop-key.invariant.owes }
