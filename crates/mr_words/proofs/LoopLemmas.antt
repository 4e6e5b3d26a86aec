-- What the words of a service on loops say.
use Rattle.std.proofs.Common.{◌≡◌, ℕ, ◌<◌, ◌^◌, true, false, List, Option, Some, None, refl, subst, sym}
use Rattle.std.specs.Str.Parse.{IsNumeral, digits_value, without_leading_plus}
use Rattle.clap.specs.Words.{Row}
use Rattle.mr_words.specs.Words.{AreLoopValues, HasLoopValues, IsNumberIfGiven, LacksLoopValues, is_on_loops, usual_loop_values}
use Rattle.mr_words.specs.declared.loop_words.LoopValues.{LoopValues}

-- what std's `parse` says of a text that it reads
abbrev IsNumeral64 : List ℕ → Type 0
IsNumeral64 text = IsNumeral 10 (without_leading_plus text) × (digits_value 10 (without_leading_plus text) < 2 ^ 64)

-- the number of an option, if it isn't left out
pub number_if_given : (number : ℕ) (text : Option (List ℕ)) → ¬ (text ≡ None)
    → ((t : List ℕ) → text ≡ Some t → IsNumeral64 t × (number ≡ digits_value 10 (without_leading_plus t))) → IsNumberIfGiven text (Some number)
number_if_given number None given value = absurd (given refl)
number_if_given number (Some t) given value =
    let read = value t refl in record { digits = read.0.0; value = read.1; fits = rw read.1 read.0.1 }

pub number_if_left_out : (text : Option (List ℕ)) → ((t : List ℕ) → ¬ (text ≡ Some t)) → IsNumberIfGiven text None
number_if_left_out None none = tt
number_if_left_out (Some t) none = absurd (none t refl)

pub no_number_if_given : (text : Option (List ℕ)) → ¬ (text ≡ None) → ((t : List ℕ) → text ≡ Some t → ¬ IsNumeral64 t) → (number : Option ℕ)
    → ¬ IsNumberIfGiven text number
no_number_if_given None given unread number is = given refl
no_number_if_given (Some t) given unread None is = is
no_number_if_given (Some t) given unread (Some number) is = unread t refl (is.digits, rw (← is.value) is.fits)

-- rows of a service by threads, and of one on loops of which nothing is said
pub by_threads : (rows : List Row) (values : Option LoopValues) → is_on_loops rows ≡ false → LacksLoopValues rows → values ≡ None → AreLoopValues rows values
by_threads rows values threads lacks none = subst (AreLoopValues rows) (sym none) (threads, lacks)

pub on_loops : (rows : List Row) (values : Option LoopValues) → is_on_loops rows ≡ true → HasLoopValues rows usual_loop_values → values ≡ Some usual_loop_values
    → AreLoopValues rows values
on_loops rows values loops has some = subst (AreLoopValues rows) (sym some) (loops, has)
