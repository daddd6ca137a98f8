mod SortLemmas
mod ExtremeLemmas
mod RangeLemmas
mod FuelLemmas
mod PartLemmas
mod NumeralLemmas
mod JoinLemmas
