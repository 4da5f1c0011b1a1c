-- What is left of `and` and of `or`, by what is kept of their sides.
use Rattle.std.proofs.Common.{◌≡◌, Bool, true, false, Option, Some, None, refl, ap, ◌∙◌}
use Rattle.pay_simplified.specs.Simplified.{unless_true, unless_false, and_form, or_form}
use Rattle.pay_prune.specs.declared.form.Kept.{Kept}
use Rattle.pay_prune.specs.declared.form.Kept.TheVariants.{Left, Right, Both}

-- what of these is kept
abbrev pub kept : {A : Type 0} → Kept → A → A → A → A
kept Left left right whole = left
kept Right left right whole = right
kept Both left right whole = whole

unless_true_kept : {A : Type 0} (other : Option Bool) (left right whole : A)
    → unless_true other left whole ≡ kept (unless_true other Left Both) left right whole
unless_true_kept None left right whole = refl
unless_true_kept (Some true) left right whole = refl
unless_true_kept (Some false) left right whole = refl

unless_false_kept : {A : Type 0} (other : Option Bool) (left right whole : A)
    → unless_false other left whole ≡ kept (unless_false other Left Both) left right whole
unless_false_kept None left right whole = refl
unless_false_kept (Some true) left right whole = refl
unless_false_kept (Some false) left right whole = refl

and_kept : {A : Type 0} (literal told other : Option Bool) (left right whole : A)
    → and_form literal told other left right whole ≡ kept (and_form literal told other Left Right Both) left right whole
and_kept (Some true) told other left right whole = refl
and_kept (Some false) told other left right whole = refl
and_kept None (Some false) other left right whole = refl
and_kept None (Some true) other left right whole = unless_true_kept other left right whole
and_kept None None other left right whole = unless_true_kept other left right whole

or_kept : {A : Type 0} (literal told other : Option Bool) (left right whole : A)
    → or_form literal told other left right whole ≡ kept (or_form literal told other Left Right Both) left right whole
or_kept (Some false) told other left right whole = refl
or_kept (Some true) told other left right whole = refl
or_kept None (Some true) other left right whole = refl
or_kept None (Some false) other left right whole = unless_false_kept other left right whole
or_kept None None other left right whole = unless_false_kept other left right whole

-- what is left of `and` and of `or` where this is kept
pub and_left : {A : Type 0} (literal told other : Option Bool) (left right whole : A) (keep : Kept)
    → and_form literal told other Left Right Both ≡ keep → and_form literal told other left right whole ≡ kept keep left right whole
and_left literal told other left right whole keep is =
    and_kept literal told other left right whole ∙ ap (λ k. kept k left right whole) is

pub or_left : {A : Type 0} (literal told other : Option Bool) (left right whole : A) (keep : Kept)
    → or_form literal told other Left Right Both ≡ keep → or_form literal told other left right whole ≡ kept keep left right whole
or_left literal told other left right whole keep is =
    or_kept literal told other left right whole ∙ ap (λ k. kept k left right whole) is
