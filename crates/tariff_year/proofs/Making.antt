-- What a year is made of keeps its laws.
use Rattle.std.proofs.Common.{◌≡◌, ℕ, ◌≤◌, leb, sym, subst, arith}
use Rattle.std.proofs.lemmas.Bool.{and_from, le-leb}
use Rattle.edition.specs.Editions.{HundredLaw}
use Rattle.edition.specs.declared.edition.Edition.{Ghosts as EditionMeant}
use Rattle.sharing.specs.Sharing.{SharingLaw}
use Rattle.sharing.specs.declared.rule.SharingRule.{Ghosts as RuleMeant}
use Rattle.year_model.specs.Calls.{Call}
use Rattle.year_model.specs.Makings.{Lawful, Makings}
use Rattle.year_model.specs.Sound.{CategoriesKnown, FixingsWhole, IsSound, TermsDated}
use Rattle.year_model.specs.State.{State, begun}
use Rattle.year_model.specs.Steps.{after}
use Rattle.year_model.proofs.DatedCalls.{dated_by}
use Rattle.year_model.proofs.SoundFact.{is_sound_by, sound_from_fact}
use Rattle.year_model.proofs.SystemsKept.{categories_known_by, fixings_whole_by}
use Rattle.tariff_year.specs.Years.{makings}
use Rattle.tariff_year.specs.declared.basis.Basis.{Basis}

-- what a year is made of is lawful
pub lawful : {E R : Type 0} (edition : EditionMeant E) (rule : RuleMeant R) (basis : Basis E R) → 12 ≤ rule.LONGEST → SharingLaw rule.LONGEST (rule.share basis.rule) → HundredLaw (edition.known basis.edition) (edition.percent basis.edition) → Lawful (makings edition rule basis)
lawful edition rule basis twelve sharing hundred =
    let year = basis.calendar.year in
    record {
      dated = and_from (leb 2000 year) (leb year 2099) (le-leb 2000 year basis.calendar.from) (le-leb year 2099 basis.calendar.to);
      twelve = twelve;
      sharing = sharing;
      hundred = hundred;
    }

-- Every call keeps a year sound, its terms dated, its fixings whole and its categories known.
pub kept_by : (m : Makings) → Lawful m → (c : Call) (s t : State) → t ≡ after m s c → IsSound s → TermsDated m.calendar s → FixingsWhole s → CategoriesKnown m.known s
    → IsSound t × TermsDated m.calendar t × FixingsWhole t × CategoriesKnown m.known t
kept_by m law c s t e sound dated priced known =
    let v = sound_from_fact s sound in
    (is_sound_by m law c s t e sound, dated_by m c s t e dated, fixings_whole_by m law c s t e v priced, categories_known_by m law c s t e v known)

-- No term is out of the year before the first call.
pub dated_begun : (calendar : ℕ) (s : State) → s ≡ begun → TermsDated calendar s
dated_begun calendar s e = subst (TermsDated calendar) (sym e) (λ k h. absurd (omega arith))
