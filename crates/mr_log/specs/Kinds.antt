-- The kinds of what happens.
use Rattle.std.specs.Prelude.{ℕ, Bool, ◌==◌}
use Rattle.mr_log.specs.declared.happening.Happening.{Happening}
use Rattle.mr_log.specs.declared.happening.Happening.TheVariants as happening
use Rattle.mr_log.specs.declared.kind.Kind.{Kind}
use Rattle.mr_log.specs.declared.kind.Kind.TheVariants.{Listens, PhaseEntered, LinkDown, LinkUp, ClientsHeldBack, ClientsWait, NoMemory, NoDescriptors, NoClock, ClockWentBack}

-- the kind of each happening
abbrev pub kind_of : Happening → Kind
kind_of (happening.Listens loops) = Listens
kind_of (happening.PhaseEntered hop phase) = PhaseEntered
kind_of (happening.LinkDown node why) = LinkDown
kind_of (happening.LinkUp node) = LinkUp
kind_of happening.ClientsHeldBack = ClientsHeldBack
kind_of (happening.ClientsWait most) = ClientsWait
kind_of happening.NoMemory = NoMemory
kind_of happening.NoDescriptors = NoDescriptors
kind_of happening.NoClock = NoClock
kind_of (happening.ClockWentBack from to) = ClockWentBack

-- how many kinds there are
abbrev pub most_kinds : ℕ
most_kinds = 10

-- the number of each kind
abbrev pub number_of_kind : Kind → ℕ
number_of_kind Listens = 0
number_of_kind PhaseEntered = 1
number_of_kind LinkDown = 2
number_of_kind LinkUp = 3
number_of_kind ClientsHeldBack = 4
number_of_kind ClientsWait = 5
number_of_kind NoMemory = 6
number_of_kind NoDescriptors = 7
number_of_kind NoClock = 8
number_of_kind ClockWentBack = 9

-- a test whether two kinds are the same
abbrev pub same_kind : Kind → Kind → Bool
same_kind kind other = number_of_kind kind == number_of_kind other
