-- The books of every list of calls balance.
use Rattle.std.proofs.Common.{List, subst}
use Rattle.year_model.specs.Books.{AccountsFor, BooksBalance, BooksTold, all_fixing_worth, all_remainders, all_unfixed_landed}
use Rattle.year_model.specs.Calls.{Call}
use Rattle.year_model.specs.Makings.{Lawful, Makings}
use Rattle.year_model.specs.Journal.{journal}
use Rattle.year_model.specs.Sound.{all_standing}
use Rattle.year_model.specs.State.{State}
use Rattle.year_model.specs.Steps.{state_after}
use Rattle.year_model.proofs.ContractBooks.{contracts_add_up, part_months_pay}
use Rattle.year_model.proofs.DraftsSpent.{drafts_stay_spendable, spendable_drafts_are_accepted, started_drafts_are_spendable}
use Rattle.year_model.proofs.EurosConserved.{euros_are_conserved, figures_account, no_euro_hides}
use Rattle.year_model.proofs.FairPasses.{passes_are_fair}
use Rattle.year_model.proofs.FixesTold.{FixesTold, fixes_kept_throughout}
use Rattle.year_model.proofs.Settling.{settles_are_passes}

-- The accepted fixes are those that the year keeps.
fixes_told : (m : Makings) → Lawful m → (calls : List Call) → FixesTold (journal m calls) (state_after m calls)
fixes_told m law calls = (fixes_kept_throughout m law calls).told

pub books_balance : BooksBalance
books_balance m law calls =
    record {
      euros = euros_are_conserved m law calls;
      no_euro_hides = no_euro_hides m law calls;
      passes = passes_are_fair m law calls;
      settles = settles_are_passes m law calls;
      contracts = contracts_add_up m law calls (fixes_told m law calls);
      part_months = part_months_pay m law (fixes_told m law) calls;
      drafts_start = started_drafts_are_spendable m calls;
      drafts_stay = drafts_stay_spendable m (state_after m calls);
      drafts_are_spent = spendable_drafts_are_accepted m (state_after m calls);
    }

-- So the figures of a state are those of every list of calls that led to it.
pub books_told : (m : Makings) → Lawful m → (s : State) → BooksTold m s s.net (all_standing s.systems) (all_unfixed_landed s.systems) (all_fixing_worth s.systems) (all_remainders s.systems)
books_told m law s calls led =
    (books_balance m law calls, subst (λ (t : State). AccountsFor (journal m calls) t t.net (all_standing t.systems) (all_unfixed_landed t.systems) (all_fixing_worth t.systems) (all_remainders t.systems)) led (figures_account m law calls))
