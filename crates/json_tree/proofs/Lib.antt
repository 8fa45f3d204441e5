pub mod Facts
pub mod Back
pub mod Whole
pub mod Pairs
pub mod Rising
pub mod Printed
pub mod RoundTrip
pub mod Laws
