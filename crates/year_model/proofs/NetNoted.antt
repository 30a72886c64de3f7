-- The net costs are the costs that the journal has less what it has of take-backs.
use Rattle.std.proofs.Common.{◌≡◌, ℕ, ◌+◌, ◌-◌, List, [], ◌∷◌, refl, ◌∙◌, arith}
use Rattle.std.proofs.lemmas.List.Sums.{sum_by-cons}
use Rattle.year_model.specs.Calls.{Call, state_of}
use Rattle.year_model.specs.Makings.{Lawful, Makings}
use Rattle.year_model.specs.Passes.{passed, passed_in_turn, settle_order}
use Rattle.year_model.specs.Journal.{Line, costs_noted, take_backs_noted, blank_line, euros_line, journal}
use Rattle.year_model.specs.Sound.{all_landed, all_standing}
use Rattle.year_model.specs.State.{State}
use Rattle.year_model.specs.Steps.{state_after}
use Rattle.year_model.proofs.Acceptance.{accepted_pass}
use Rattle.year_model.proofs.GridPasses.{standing_small}
use Rattle.year_model.proofs.Grids.{grid_of}
use Rattle.year_model.proofs.Histories.{Keeps, kept_throughout}
use Rattle.year_model.proofs.SoundCalls.{sound_state_after}

-- The costs of the lines are what their take-backs have and the net costs.
abbrev pub NetTold : List Line → State → Type 0
NetTold lines s = costs_noted lines ≡ take_backs_noted lines + s.net

-- So it is with one line more, where the net costs moved by what the line has.
net_more : (lines : List Line) (before after : ℕ) (l : Line) → costs_noted lines ≡ take_backs_noted lines + before → before + l.cost ≡ after + l.take_back
    → costs_noted (l ∷ lines) ≡ take_backs_noted (l ∷ lines) + after
net_more lines before after l told moved =
    omega (arith, sum_by-cons (λ (x : Line). x.cost) l lines, sum_by-cons (λ (x : Line). x.take_back) l lines)

-- Passes leave the net costs.
net_passed : (m : Makings) (s : State) (n : ℕ) → (state_of s (passed m s n)).net ≡ s.net
net_passed m s n = accepted_pass m s (λ o. (state_of s o).net ≡ s.net) (λ _. refl) n (λ x ok. refl)

net_in_turn : (m : Makings) (s : State) (ns : List ℕ) → (passed_in_turn m s ns).net ≡ s.net
net_in_turn m s [] = refl
net_in_turn m s (n ∷ ns) = net_in_turn m (state_of s (passed m s n)) ns ∙ net_passed m s n

net_kept : (m : Makings) → Keeps m NetTold
net_kept m =
    record {
      opens = λ lines s v told level category ok. told;
      couples = λ lines s v told upper lower kw mwh above below ok. told;
      uses = λ lines s v told n kw mwh permille x ok. told;
      costs = λ lines s v told n euros x ok. net_more lines s.net (s.net + euros) (euros_line euros 0) told (omega arith);
      takes_back = λ lines s v told n euros x ok.
          net_more lines s.net (s.net - euros) (euros_line 0 euros) told (omega (arith, ok.stands, standing_small s (grid_of s v) n x ok.at.entry));
      passes = λ lines s v told n x ok. told;
      settles = λ lines s v told free. net_more lines s.net (passed_in_turn m s (settle_order s)).net blank_line told (omega (arith, net_in_turn m s (settle_order s)));
      fixes = λ lines s v told n v₁ v₂ v₃ v₄ x f ok. told;
      contracts = λ lines s v told n kw fee first last reading x f ok. told;
      starts = λ lines s v told n kwmax reading c ok. told;
      issues = λ lines s v told book n month c d ok. told;
      tears = λ lines s v told book n month c d ok. told;
    }

pub net_told : (m : Makings) → Lawful m → (calls : List Call) → NetTold (journal m calls) (state_after m calls)
net_told m law calls = kept_throughout m NetTold (net_kept m) law refl calls

-- The costs that the journal has are what it has of take-backs, and what stands and has landed.
pub costs_are_noted : (m : Makings) → Lawful m → (calls : List Call)
    → costs_noted (journal m calls) ≡ take_backs_noted (journal m calls) + all_standing (state_after m calls).systems + all_landed (state_after m calls).systems
costs_are_noted m law calls = omega (arith, net_told m law calls, (sound_state_after m law calls).money.0)
