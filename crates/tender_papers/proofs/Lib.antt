pub mod Names
pub mod RecordSteps
pub mod ReaderSteps
pub mod FourSteps
pub mod BudgetSteps
pub mod TenderSteps
