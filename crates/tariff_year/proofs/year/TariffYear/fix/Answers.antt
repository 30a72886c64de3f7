use Rattle.std.proofs.Common.{◌≡◌, ℕ, ◌<◌, ◌≤◌, ◌&&◌, ◌⊎◌, List, count_by, get_or, ap, ◌∙◌, subst, ◌==◌, rules}
use Rattle.year_model.specs.Calls.{reply_of, state_of}
use Rattle.year_model.specs.Fixes.{is_unfixed, unfixed_above}
use Rattle.year_model.specs.State.{numbered, view}
use Rattle.year_model.specs.declared.tables.Coupling.{Coupling}
use Rattle.year_model.specs.declared.tables.System.{System}
use Rattle.tariff_year.specs.LookedUp.{unfixed}
use Rattle.tariff_year.specs.Years.{makings}
use Rattle.tariff_year.proofs.Entries.{here_from_slice}
use Rattle.tariff_year.proofs.FixCalls.{fix_of_none, fix_unsettled}
use Rattle.tariff_year.proofs.year.TariffYear.fix.Goals as goal

pub returns-in_err-old : goal.returns-in_err-old
returns-in_err-old g c =
    let old = c.args.self.now in
    let m = makings g.E.Edition g.R.SharingRule old.basis in
    let s = view old.tables in
    let vs = c.args.volumes in
    let n = c.args.system in
    let e = c.in_err-old.field-0.0 in
    let told = c.in_err-old.ensures.told ∙ ap (λ (xs : List System). unfixed (numbered xs n)) c.deref.ensures.value in
    let came = fix_of_none m s n (get_or vs 0 0) (get_or vs 1 0) (get_or vs 2 0) (get_or vs 3 0)
    c.in_ok-bound.ensures.within c.in_ok-bound-2.ensures.within c.in_ok-bound-3.ensures.within c.in_ok-bound-4.ensures.within c.in_ok-bound-5.ensures.within e told in
    let replied = ap reply_of came in
    let stays = ap (state_of s) came in
    record { did = record { answered = search (rules, replied); state = search (rules, stays) }; kept = search rules }

pub returns-then-old-gt0 : goal.returns-then-old-gt0
returns-then-old-gt0 g c =
    let old = c.args.self.now in
    let m = makings g.E.Edition g.R.SharingRule old.basis in
    let s = view old.tables in
    let vs = c.args.volumes in
    let n = c.args.system in
    let x = c.in_ok-old.old in
    let above : c.count_unfixed_above-above.result ≡ unfixed_above s n =
    c.count_unfixed_above-above.ensures
    ∙ ap (λ (ks : List Coupling). count_by (λ k. (k.lower == n) && is_unfixed (numbered c.deref-2.result.now k.upper)) ks) c.deref-3.ensures.value
    ∙ ap (λ (xs : List System). count_by (λ k. (k.lower == n) && is_unfixed (numbered xs k.upper)) s.couplings) c.deref-2.ensures.value in
    let unsettled = subst (λ (a : ℕ). (0 < x.standing) ⊎ ((x.standing ≤ 0) × (0 < a))) above c.then-old-gt0.either in
    let came = fix_unsettled m s n (get_or vs 0 0) (get_or vs 1 0) (get_or vs 2 0) (get_or vs 3 0)
    c.in_ok-bound.ensures.within c.in_ok-bound-2.ensures.within c.in_ok-bound-3.ensures.within c.in_ok-bound-4.ensures.within c.in_ok-bound-5.ensures.within
    x (here_from_slice _ _ n x c.deref.ensures.value c.in_ok-old.ensures.there) c.in_ok-old.ensures.not_fixed unsettled in
    let replied = ap reply_of came in
    let stays = ap (state_of s) came in
    record { did = record { answered = search (rules, replied); state = search (rules, stays) }; kept = search rules }
