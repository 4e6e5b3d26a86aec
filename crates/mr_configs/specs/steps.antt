-- Words of inner functions. No clause of a public call cites these definitions.
pub mod TimesAt
