pub mod FilesAt
