pub mod ContentLemmas
pub mod OpeningLemmas
pub mod PayContent
pub mod PayLemmas
pub mod TermLemmas
