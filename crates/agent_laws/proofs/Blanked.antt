-- What is the same on a blanked log.
pub mod BlankedExchanges
pub mod BlankedAccess
pub mod BlankedSteps
pub mod KeptStores
