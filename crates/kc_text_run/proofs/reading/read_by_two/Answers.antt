use Rattle.std.proofs.Common.{rules, ap}
use Rattle.kc_text_run.proofs.reading.read_by_two.Goals as goal

pub returns-clause-past : goal.returns-clause-past
returns-clause-past g c = record {
  texts = c.layout-layout.result;
  base = ap (λ l. l.0) c.layout-layout.ensures.base;
  places = c.layout-layout.ensures.places;
  count = search rules;
  past = c.read_both-front.ensures.past;
}
