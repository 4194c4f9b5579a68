-- What is found from the marks of what is seen.
use Rattle.solving.proofs.plan.opened.Goals as goal

pub returns-in-None : goal.returns-in-None
returns-in-None c =
    let o = c.open_known.ensures in
    record {
      seen_marked = o.seen_marked;
      built_marked = o.built_marked;
      exact = λ ev p s _. record { seen = o.seen ev p s; built = o.built ev p s; seen_marked = o.seen_marked; built_marked = o.built_marked };
    }
