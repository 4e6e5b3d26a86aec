-- There is one text of a moment.
use Rattle.std.proofs.Common.{◌≡◌, ℕ, List, [], ◌∷◌, ◌++◌, Bool, false, Option, None, Some, codes, ℤ, inl, inr, sym, ap, ◌∙◌, append_assoc, arith}
use Rattle.jiff.proofs.Family.{same_datetime}
use Rattle.jiff_core.specs.declared.civil.datetime.DateTime.{DateTime}
use Rattle.jiff_fmt.specs.Text as Text
use Rattle.jiff_fmt.specs.Text.{date_text, time_text}
use Rattle.mr_log.specs.Time.{IsMoment, IsDated}

moment_text : DateTime → List ℕ
moment_text shown = date_text shown.date ++ (codes "T" ++ (time_text None shown.time ++ codes "Z"))

one_moment : (nanosecond : ℤ) (text other : List ℕ) → IsMoment nanosecond text → IsMoment nanosecond other → text ≡ other
unfolding moment_text
one_moment nanosecond text other a b =
    let same : a.shown ≡ b.shown = same_datetime a.shown b.shown (a.stands ∙ sym b.stands) in
    a.spelled ∙ ap moment_text same ∙ sym b.spelled

-- there is one text of a time
pub one_time : (at : Option ℕ) (text other : List ℕ) → IsDated at text → IsDated at other → text ≡ other
one_time None text other a b = a ∙ sym b
one_time (Some second) text other (inl a) (inl b) = one_moment _ text other a.moment b.moment
one_time (Some second) text other (inl a) (inr b) = absurd (omega (arith, a.early, b.late))
one_time (Some second) text other (inr a) (inl b) = absurd (omega (arith, b.early, a.late))
one_time (Some second) text other (inr a) (inr b) = a.spelled ∙ sym b.spelled

-- how a printer with its usual options spells a moment
pub spelled_by_default : (lowercase : Bool) (separator : ℕ) (precision : Option ℕ) (shown : DateTime)
    → ◌≡◌ {A = Bool × ℕ × Option ℕ} (lowercase, separator, precision) (false, 84, None)
    → Text.datetime_text lowercase separator precision shown ++ Text.zulu_text lowercase
    ≡ date_text shown.date ++ (codes "T" ++ (time_text None shown.time ++ codes "Z"))
spelled_by_default lowercase separator precision shown options =
    ap (λ (o : Bool × ℕ × Option ℕ). Text.datetime_text o.0 o.1 o.2 shown ++ Text.zulu_text o.0) options
    ∙ append_assoc (date_text shown.date) (84 ∷ time_text None shown.time) (90 ∷ [])
