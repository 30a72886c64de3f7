use Rattle.std.proofs.Common.{rules, tests, ◌≡◌, ◌+◌, ◌-◌, ◌*◌, ◌<◌, ◌++◌, ◌∷◌, [], List, length, get_or, take, sym, ap, ◌∙◌, arith}
use Rattle.std.proofs.lemmas.Iterator.Consumers.{YieldsList-turn, YieldsList-end}
use Rattle.std.proofs.lemmas.List.{length_push}
use Rattle.std.proofs.lemmas.List.Sums.{length-filter}
use Rattle.year_model.specs.declared.tables.Coupling.{Coupling}
use Rattle.year_model.specs.Passes.{handed_down}
use Rattle.tariff_year.specs.Takings.{leading_down}
use Rattle.tariff_year.proofs.Gathering.{leads_from}
use Rattle.tariff_year.proofs.HandedOn.{all_taken, handed_more, next_pair, pairs_yielded, standing_more}
use Rattle.tariff_year.proofs.handing.hand_down.Goals as goal

pub overflow_add-systems : goal.overflow_add-systems
overflow_add-systems c =
    let now =
    next_pair c.args.couplings.now c.args.upper (length c.loop-coupling.yielded) (length c.args.systems.now) c.args.received.now c.in-Some.coupling.now c.in-Some.euros.now c.requires.lead
    (YieldsList-turn (pairs_yielded c.args.couplings.now c.args.upper c.args.received.now (cc) (cc) c.filter-below.ensures.closure (λ x r q k. search (rules, tests)) (cc) (search rules))
    c.loop-coupling.yielded c.loop-coupling.coupling-iterator c.loop-coupling.yielded_by c.next.result c.next.new.self (c.in-Some.coupling, c.in-Some.euros) c.in-Some.is c.next.ensures.steps) in
    omega (arith, now.inside, now.euros_is, c.requires.few, length-filter (leads_from c.args.upper) c.args.couplings.now, c.loop-coupling.invariant.1 (c.in-Some.coupling.now.lower - 1), c.requires.received (length c.loop-coupling.yielded + 1))

pub loop-coupling-preserved : goal.loop-coupling-preserved
loop-coupling-preserved c =
    let now =
    next_pair c.args.couplings.now c.args.upper (length c.loop-coupling.yielded) (length c.args.systems.now) c.args.received.now c.in-Some.coupling.now c.in-Some.euros.now c.requires.lead
    (YieldsList-turn (pairs_yielded c.args.couplings.now c.args.upper c.args.received.now (cc) (cc) c.filter-below.ensures.closure (λ x r q k. search (rules, tests)) (cc) (search rules))
    c.loop-coupling.yielded c.loop-coupling.coupling-iterator c.loop-coupling.yielded_by c.next.result c.next.new.self (c.in-Some.coupling, c.in-Some.euros) c.in-Some.is c.next.ensures.steps) in
    let received = c.args.received.now in
    let cs = c.args.couplings.now in
    let n = length c.loop-coupling.yielded in
    let zs = c.loop-coupling.systems in
    let below = c.in-Some.coupling.now in
    let euros = c.in-Some.euros.now in
    let more : length (c.loop-coupling.yielded ++ (c.in-Some.coupling, c.in-Some.euros) ∷ []) ≡ n + 1 = length_push c.loop-coupling.yielded (c.in-Some.coupling, c.in-Some.euros) in
    let long = c.loop-coupling.auto.systems in
    let inside : below.lower - 1 < length zs = omega (arith, now.low, now.high) in
    let grown = standing_more zs (below.lower - 1) (5_000_000_000 * (n + 1)) euros inside c.loop-coupling.invariant.1 in (
      handed_more received cs c.args.upper n (length c.args.systems.now) euros below c.args.systems.now zs now long c.loop-coupling.invariant.0
          ∙ ap (λ k. handed_down (λ taker. get_or received taker 0) 1 (take k (leading_down cs c.args.upper)) c.args.systems.now) (sym more),
      λ k. omega (arith, grown k, more, now.euros_is, c.requires.received (n + 1)),
    )

pub returns : goal.returns
returns c =
    let end =
    YieldsList-end
    (pairs_yielded c.args.couplings.now c.args.upper c.args.received.now (cc) (cc) c.filter-below.ensures.closure (λ x r q k. search (rules, tests)) (cc) (search rules))
    c.loop-coupling.yielded c.loop-coupling.coupling-iterator c.loop-coupling.yielded_by c.next.result c.next.new.self c.in-None.is c.next.ensures.steps in
    let all = all_taken c.args.couplings.now c.args.upper (length c.loop-coupling.yielded) c.args.received.now c.requires.few (search rules) end.1 in
    c.loop-coupling.invariant.0 ∙ ap (λ (cs : List Coupling). handed_down (λ taker. get_or c.args.received.now taker 0) 1 cs c.args.systems.now) all
