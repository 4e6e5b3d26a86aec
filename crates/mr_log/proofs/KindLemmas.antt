-- Kinds and their numbers.
use Rattle.std.proofs.Common.{◌≡◌, ℕ, ◌<◌, ◌==◌, if◌then◌else◌, refl, sym, ap, ◌∙◌, lit<}
use Rattle.mr_log.specs.Kinds.{number_of_kind, most_kinds}
use Rattle.mr_log.specs.declared.kind.Kind.{Kind}
use Rattle.mr_log.specs.declared.kind.Kind.TheVariants.{Listens, PhaseEntered, LinkDown, LinkUp, ClientsHeldBack, ClientsWait, NoMemory, NoDescriptors, NoClock, ClockWentBack}

-- the kind of a number
abbrev kind_numbered : ℕ → Kind
kind_numbered number =
    if number == 0 then Listens else
    if number == 1 then PhaseEntered else
    if number == 2 then LinkDown else
    if number == 3 then LinkUp else
    if number == 4 then ClientsHeldBack else
    if number == 5 then ClientsWait else
    if number == 6 then NoMemory else
    if number == 7 then NoDescriptors else
    if number == 8 then NoClock else ClockWentBack

numbered_back : (kind : Kind) → kind_numbered (number_of_kind kind) ≡ kind
numbered_back Listens = refl
numbered_back PhaseEntered = refl
numbered_back LinkDown = refl
numbered_back LinkUp = refl
numbered_back ClientsHeldBack = refl
numbered_back ClientsWait = refl
numbered_back NoMemory = refl
numbered_back NoDescriptors = refl
numbered_back NoClock = refl
numbered_back ClockWentBack = refl

-- kinds of the same number are the same
pub kind-from_number : (kind other : Kind) → number_of_kind kind ≡ number_of_kind other → kind ≡ other
kind-from_number kind other same = sym (numbered_back kind) ∙ ap kind_numbered same ∙ numbered_back other

-- the number of each kind is below their number
pub number-lt : (kind : Kind) → number_of_kind kind < most_kinds
number-lt Listens = lit< tt
number-lt PhaseEntered = lit< tt
number-lt LinkDown = lit< tt
number-lt LinkUp = lit< tt
number-lt ClientsHeldBack = lit< tt
number-lt ClientsWait = lit< tt
number-lt NoMemory = lit< tt
number-lt NoDescriptors = lit< tt
number-lt NoClock = lit< tt
number-lt ClockWentBack = lit< tt
