-- The theorems of the reader of traces.
pub mod Table
pub mod Past
pub mod Answers
pub mod Further
pub mod RoundTrip
pub mod Reader
