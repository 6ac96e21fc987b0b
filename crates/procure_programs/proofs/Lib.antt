pub mod Names
pub mod ServingSteps
mod EmptyFile
mod EmptyOpened
mod ListedPages
mod OpenedFiles
mod RememberedServing
mod StoppedFiles
pub mod Turns
pub mod ConnectionSteps
pub mod FaultSteps
pub mod ItemSteps
pub mod ReadFileSteps
